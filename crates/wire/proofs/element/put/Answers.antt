use mathlib.Core.Path.{sym}
use native.Mathlib.Nat.{mul-zero}
use Rattle.laws.proofs.Lists.{each-end}
use Rattle.laws.proofs.Filling.{filling-none, each-piece}
use Rattle.wire.proofs.Elements.{elements_fit, elements-none, next-begins, put-piece, put-end}
use Rattle.wire.proofs.element.put.Goals as goal

pub returns-then-bytes-SIZE : goal.returns-then-bytes-SIZE
returns-then-bytes-SIZE g c = let law = g.met.T.Element in
    elements-none g.T.Element.bytes_of law.has_bytes law.sized c.args.elements.now c.args.bytes.now (rw c.SIZE.ensures at c.if-bytes-SIZE.true)

pub loop-i-init : goal.loop-i-init
loop-i-init g c = let law = g.met.T.Element in
    (elements_fit g.T.Element.bytes_of law.has_bytes law.sized c.args.elements.now c.args.bytes.now (rw c.SIZE.ensures at c.if-bytes-SIZE.false), rw (mul-zero g.T.Element.SIZE) (filling-none _ _))

pub loop-i-preserved : goal.loop-i-preserved
loop-i-preserved g c = let inv = c.loop-i.invariant in
    let next = each-piece g.T.Element.bytes_of c.index-elements-i.result c.args.elements.now _ c.loop-i-test.true in
    (inv.0, put-piece inv.0 (g.met.T.Element.sized c.index-elements-i.result) inv.1 (rw (sym c.index-elements-i.is) at next) c.put.ensures (next-begins _ _))

pub returns : goal.returns
returns g c = let inv = c.loop-i.invariant in
    put-end inv.0 inv.1 (each-end g.T.Element.bytes_of _ _ c.loop-i-test.false)
