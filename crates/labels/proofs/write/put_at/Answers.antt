-- `labels::write::put_at` meets its contract: the part of the image that is written is the record's
-- place.
use mathlib.Core.Path.{◌∙◌}
use Rattle.labels.proofs.Storing.{put-placed}
use Rattle.labels.proofs.write.put_at.Goals as goal

pub returns : goal.returns
returns c = put-placed _ c.args.number _ (c.copy_from_slice.ensures.after ∙ c.filled-record.ensures.value_2)
