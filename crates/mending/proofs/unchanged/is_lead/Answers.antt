-- `mending::unchanged::is_lead` meets its contract: the two bounds of the number, and the test of
-- the second byte, are all that is asked.
use mathlib.Core.Path.{sym, ◌∙◌}
use native.Mathlib.Omega.{arith}
use Rattle.mending.proofs.Passes.{lead-number}
use Rattle.mending.proofs.unchanged.is_lead.Goals as goal

pub returns-in-60032-to-60831 : goal.returns-in-60032-to-60831
returns-in-60032-to-60831 c = λ q. lead-number (omega arith) (omega arith) (omega arith) (sym c.is_continuation.ensures ∙ q)
