-- `fillers::group::peak_of` meets its contract: inside the range the distance is P, and outside
-- there is none.
use mathlib.Core.Path.{sym, ap}
use native.Mathlib.Omega.{arith}
use Rattle.laws.specs.Options.{as_answer}
use Rattle.fillers.proofs.Letters.{peak-inside, peak-low, peak-high}
use Rattle.fillers.proofs.group.peak_of.Goals as goal

pub returns-in-12623-to-12643 : goal.returns-in-12623-to-12643
returns-in-12623-to-12643 c = sym (ap as_answer (peak-inside _ (omega arith) (omega arith)))

pub returns-in_default : goal.returns-in_default
returns-in_default c = sym (ap as_answer (peak-low _ (omega arith)))

pub returns-in_default-2 : goal.returns-in_default-2
returns-in_default-2 c = sym (ap as_answer (peak-high _ (omega arith)))
