-- `labels::image::check_number` meets its contract: no whole number of records, a number that is
-- not in the image, or one that is.
use native.Mathlib.Omega.{arith}
use Rattle.labels.proofs.Images.{number-uneven, number-beyond, number_in}
use mathlib.Core.Path.{sym}
use Rattle.labels.proofs.image.check_number.Goals as goal

pub returns-then-image-ne0 : goal.returns-then-image-ne0
returns-then-image-ne0 c = sym (number-uneven _ _ c.if-image-ne0.true)

pub returns-then-image-number : goal.returns-then-image-number
returns-then-image-number c = sym
    (number-beyond c.args.image.now c.args.number c.if-image-ne0.false (omega (arith, c.if-image-number.true)))

pub returns : goal.returns
returns c = sym (number_in c.args.image.now c.args.number c.if-image-ne0.false (omega (arith, c.if-image-number.false)))
