use native.Mathlib.Omega.{arith}
use borrow.Author.Rules.{rules}
use Rattle.mending.proofs.Turns.{passes_none, passes_on}
use Rattle.mending_units.proofs.Passes.{plain-four}
use Rattle.mending_units.proofs.unchanged.fours.Goals as goal

pub loop-at-init : goal.loop-at-init
loop-at-init c = search (rules, passes_none)

pub loop-at-preserved : goal.loop-at-preserved
loop-at-preserved c = passes_on c.loop-at.invariant (plain-four _ _ (omega arith) (c.are_plain.ensures c.if-not-are_plain.false))
