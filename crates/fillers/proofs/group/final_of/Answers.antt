-- `fillers::group::final_of` meets its contract: the filler is 0, inside the range the table
-- decides, and outside there is none.
use mathlib.Core.Path.{sym, ◌∙◌, ap}
use native.Mathlib.Omega.{arith}
use Rattle.laws.specs.Options.{as_answer}
use Rattle.fillers.proofs.Letters.{final-filler, final-low, final-high, final-listed}
use Rattle.fillers.proofs.group.final_of.Goals as goal

pub returns-in-12644 : goal.returns-in-12644
returns-in-12644 c = sym (ap as_answer (final-filler _ (omega arith)))

pub returns-in-12593-to-12622 : goal.returns-in-12593-to-12622
returns-in-12593-to-12622 c = c.number_or_none.ensures ∙ final-listed c.pairs-table.ensures _ (omega arith) (omega arith)

pub returns-in_default : goal.returns-in_default
returns-in_default c = sym (ap as_answer (final-low _ (omega arith)))

pub returns-in_default-2 : goal.returns-in_default-2
returns-in_default-2 c = sym (ap as_answer (final-high _ (omega arith) (omega arith)))
