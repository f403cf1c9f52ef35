-- `labels::image::check_image` meets its contract: over the limit, no whole number of records, or
-- taken.
use Rattle.labels.proofs.Judging.{whole-over, whole-uneven, whole-passed}
use Rattle.labels.proofs.image.check_image.Goals as goal

pub returns-then-image-gt-MOST : goal.returns-then-image-gt-MOST
returns-then-image-gt-MOST c = whole-over _ c.if-image-gt-MOST.true

pub returns-then-image-ne0 : goal.returns-then-image-ne0
returns-then-image-ne0 c = whole-uneven _ c.if-image-gt-MOST.false c.if-image-ne0.true

pub returns : goal.returns
returns c = whole-passed _ c.if-image-gt-MOST.false c.if-image-ne0.false
