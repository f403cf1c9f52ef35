use mathlib.Core.Path.{sym}
use Rattle.clusters.proofs.SimpleForm.{simple-each, simple-piece, simple-end}
use Rattle.laws.proofs.Filling.{filling-begin, filling-room, filling-more, filling-all}
use Rattle.clusters.proofs.simple.simple_into.Goals as goal

pub loop-code-init : goal.loop-code-init
loop-code-init c = filling-begin _ (sym (simple-each c.args.text.now))

pub put_simple-at-requires : goal.put_simple-at-requires
put_simple-at-requires c = filling-room c.requires c.loop-code.invariant
    (simple-piece _ _ c.loop-code-test.true)

pub loop-code-preserved : goal.loop-code-preserved
loop-code-preserved c = filling-more c.requires
    c.loop-code.invariant (simple-piece _ _ c.loop-code-test.true)
    c.put_simple-at.ensures

pub returns : goal.returns
returns c = filling-all c.loop-code.invariant (simple-end _ _ c.loop-code-test.false)
