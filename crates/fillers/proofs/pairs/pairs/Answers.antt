-- `fillers::pairs::pairs` meets its contract: its table has I and F of the pairs, by a computed
-- test.
use mathlib.Core.Path.{refl}
use Rattle.fillers.specs.Groups.{pairs}
use Rattle.fillers.proofs.Table.{pairs-right}
use Rattle.fillers.proofs.pairs.pairs.Goals as goal

pub returns : goal.returns
unfolding pairs
returns c = pairs-right _ refl tt
