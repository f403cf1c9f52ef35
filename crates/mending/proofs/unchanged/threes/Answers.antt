use Rattle.mending.proofs.Passes.{lead-three, three-passes}
use native.Mathlib.Omega.{arith}
use mathlib.Core.Path.{refl}
use Rattle.encodings.proofs.Taking.{test-true}
use Rattle.mending.proofs.Turns.{passes_none, passes_on}
use borrow.Author.Rules.{rules}
use Rattle.mending.proofs.unchanged.threes.Goals as goal

pub loop-at-init : goal.loop-at-init
loop-at-init c = search (rules, passes_none)

pub loop-at-preserved : goal.loop-at-preserved
loop-at-preserved c = passes_on c.loop-at.invariant (three-passes _ _ (omega arith) refl
    (lead-three (c.is_lead.ensures c.if-not-is_lead.false) (test-true c.is_continuation.ensures
    c.if-not-is_continuation.false) c.if-text-at.false))
