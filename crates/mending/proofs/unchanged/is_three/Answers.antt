-- `mending::unchanged::is_three` meets its contract: what passes all its tests is a character from
-- A000 to D7FF, with no E1 after it.
use mathlib.Core.Bool.{false≢true}
use mathlib.Core.Path.{sym, ◌∙◌}
use Rattle.mending.proofs.Passes.{lead-three}
use Rattle.mending.proofs.unchanged.is_three.Goals as goal
use Rattle.mending.proofs.unchanged.is_three.Goals.{then-is_lead, else-is_lead}

pub returns-then-is_continuation : goal.returns-then-is_continuation
returns-then-is_continuation c = λ q. elim c.if-is_lead.branch [
  | then-is_lead w ↦ lead-three (c.is_lead.ensures w.if-is_lead.true)
      (sym w.is_continuation.ensures ∙ sym w.value-is ∙ c.if-is_continuation.true) (λ e. false≢true (rw e at q))
  | else-is_lead w ↦ absurd (cc)
]
