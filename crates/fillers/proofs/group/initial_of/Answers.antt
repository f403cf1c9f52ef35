-- `fillers::group::initial_of` meets its contract: inside the range the table decides, and outside
-- there is none.
use mathlib.Core.Path.{sym, ◌∙◌, ap}
use native.Mathlib.Omega.{arith}
use Rattle.laws.specs.Options.{as_answer}
use Rattle.fillers.proofs.Letters.{initial-low, initial-high, initial-listed}
use Rattle.fillers.proofs.group.initial_of.Goals as goal

pub returns-in-12593-to-12622 : goal.returns-in-12593-to-12622
returns-in-12593-to-12622 c = c.number_or_none.ensures ∙ initial-listed c.pairs-table.ensures _ (omega arith) (omega arith)

pub returns-in_default : goal.returns-in_default
returns-in_default c = sym (ap as_answer (initial-low _ (omega arith)))

pub returns-in_default-2 : goal.returns-in_default-2
returns-in_default-2 c = sym (ap as_answer (initial-high _ (omega arith)))
