use native.Mathlib.Omega.{arith}
use Rattle.mending.proofs.Passes.{low-eight}
use Rattle.mending.proofs.Turns.{passes_none, passes_on}
use borrow.Author.Rules.{rules}
use Rattle.mending.proofs.unchanged.eights.Goals as goal

pub loop-at-init : goal.loop-at-init
loop-at-init c = search (rules, passes_none)

pub loop-at-preserved : goal.loop-at-preserved
loop-at-preserved c = passes_on c.loop-at.invariant
    (low-eight _ _ (omega arith) (c.are_low.ensures c.if-not-are_low.false))
