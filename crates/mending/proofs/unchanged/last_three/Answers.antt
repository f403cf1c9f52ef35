-- `mending::unchanged::last_three` meets its contract: no three bytes are left, or they are no such
-- character, or nothing stands after them.
use Rattle.mending.proofs.Passes.{three-last}
use native.Mathlib.Omega.{arith}
use Rattle.mending.proofs.Turns.{passes_none}
use Rattle.mending.proofs.unchanged.last_three.Goals as goal

pub returns-then-text-at-ne3 : goal.returns-then-text-at-ne3
returns-then-text-at-ne3 c = passes_none _ _ c.requires

pub returns-then-not-is_three : goal.returns-then-not-is_three
returns-then-not-is_three c = passes_none _ _ c.requires

pub returns : goal.returns
returns c = three-last _ _ (omega (arith, c.if-text-at-ne3.false)) (c.is_three.ensures c.if-not-is_three.false)
