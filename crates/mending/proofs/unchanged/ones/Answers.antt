use Rattle.mending.proofs.Passes.{low-passes}
use Rattle.mending.proofs.Turns.{passes_none, passes_on}
use borrow.Author.Rules.{rules}
use Rattle.mending.proofs.unchanged.ones.Goals as goal

pub loop-at-init : goal.loop-at-init
loop-at-init c = search (rules, passes_none)

pub loop-at-preserved : goal.loop-at-preserved
loop-at-preserved c = search (rules, passes_on, low-passes)
