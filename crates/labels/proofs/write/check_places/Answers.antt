-- `labels::write::check_places` meets its contract: 1 for the image, 1 for the label, then 6; the
-- first that refuses decides.
use Rattle.std.proofs.lemmas.Result.{err_from_is_err_and}
use Rattle.labels.proofs.Storing.{places-over, places-label, places-number}
use Rattle.labels.proofs.write.check_places.Goals as goal

pub returns-then-image-gt-MOST : goal.returns-then-image-gt-MOST
returns-then-image-gt-MOST c = places-over _ _ _ c.if-image-gt-MOST.true

pub returns : goal.returns
returns c = places-number _ _ _ c.if-image-gt-MOST.false c.check_bytes.ensures c.in_ok-check_bytes.was
    c.check_number.result c.check_number.ensures

pub returns-in_err-check_bytes : goal.returns-in_err-check_bytes
returns-in_err-check_bytes c =
    let p = err_from_is_err_and c.from_residual.result c.from_residual.ensures.1 in
    rw (p.1, p.2) (places-label _ _ _ c.if-image-gt-MOST.false c.check_bytes.ensures c.in_err-check_bytes.was)
