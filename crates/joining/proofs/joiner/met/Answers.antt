-- `joining::joiner::met` meets its contract: each return knows what is open.
use mathlib.Core.Path.{refl}
use Rattle.joining.proofs.Pairs.{none-nonzero}
use Rattle.joining.proofs.joiner.met.Goals as goal

pub returns-in-Nothing : goal.returns-in-Nothing
returns-in-Nothing c = rw c.in-Nothing.is (none-nonzero refl)
