-- `labels::layout::fresh` meets its contract: 96 zeros are the fresh record.
use Rattle.labels.specs.Records.{fresh_record}
use mathlib.Core.Path.{refl}
use Rattle.labels.proofs.layout.fresh.Goals as goal

pub returns : goal.returns
unfolding fresh_record
returns c = record { value = refl; value_2 = refl }
