-- `labels::record::label_at` meets its contract: no such record, no good length, or the label in
-- its place.
use Rattle.labels.proofs.Lookups.{label-none, label-long, label_is}
use Rattle.labels.proofs.record.label_at.Goals as goal

pub returns-then-image-number : goal.returns-then-image-number
returns-then-image-number c = label-none _ _ c.if-image-number.true

pub returns-then-size-gt88 : goal.returns-then-size-gt88
returns-then-size-gt88 c = label-long _ _ c.if-image-number.false c.if-size-gt88.true

pub returns : goal.returns
returns c = label_is _ _ c.if-image-number.false c.if-size-gt88.false
