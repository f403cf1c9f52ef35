-- `mending::spelled::tail_at` meets its contract: no three bytes, in the text or from the index on,
-- another first byte, or the two bytes after E1.
use Rattle.mending.proofs.Spelling.{tail-short, tail-other, tail-three}
use native.Mathlib.Omega.{arith}
use Prim.Native.Nat.{◌+◌}
use Rattle.mending.proofs.spelled.tail_at.Goals as goal

pub returns-then-text-lt3 : goal.returns-then-text-lt3
returns-then-text-lt3 c = tail-short _ _ (omega arith)

pub returns-then-text-at : goal.returns-then-text-at
returns-then-text-at c = tail-short _ _ (omega (arith, c.if-text-at.true))

pub returns-then-text-at-2 : goal.returns-then-text-at-2
returns-then-text-at-2 c = tail-other _ _ c.if-text-at-2.true

pub returns : goal.returns
returns c = tail-three _ _ (omega (arith, c.if-text-at.false)) c.if-text-at-2.false
    (omega (arith, c.type_inv.text (c.args.at + 1))) (omega (arith, c.type_inv.text (c.args.at + 2)))
