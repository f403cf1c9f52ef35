-- `labels::layout::check_one` meets its contract: 1, then 6, then 7; the first that refuses
-- decides.
use Rattle.std.proofs.lemmas.Result.{err_from_is_err_and}
use Rattle.labels.proofs.Finding.{one-over, one_number, one_inside, one-record}
use Rattle.labels.proofs.layout.check_one.Goals as goal

pub returns-then-image-gt-MOST : goal.returns-then-image-gt-MOST
returns-then-image-gt-MOST c = one-over _ _ c.if-image-gt-MOST.true

pub check_record-requires : goal.check_record-requires
check_record-requires c = one_inside _ _ c.if-image-gt-MOST.false c.check_number.ensures c.in_ok-check_number.was

pub returns : goal.returns
returns c = one-record _ _ c.if-image-gt-MOST.false c.check_number.ensures c.in_ok-check_number.was
    c.check_record.result c.check_record.ensures

pub returns-in_err-check_number : goal.returns-in_err-check_number
returns-in_err-check_number c =
    let p = err_from_is_err_and c.from_residual.result c.from_residual.ensures.1 in
    rw (p.1, p.2) (one_number _ _ c.if-image-gt-MOST.false c.check_number.ensures c.in_err-check_number.was)
