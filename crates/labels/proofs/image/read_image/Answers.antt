-- `labels::image::read_image` meets its contract: the checks refuse, or the records are judged.
use Rattle.std.proofs.lemmas.Result.{err_from_is_err_and}
use mathlib.Core.Path.{sym}
use Rattle.labels.proofs.Judging.{judges-refused}
use Rattle.labels.proofs.image.read_image.Goals as goal

pub judge_records-requires : goal.judge_records-requires
judge_records-requires c = sym c.in_ok-check_image.ensures

pub returns-in_err-check_image : goal.returns-in_err-check_image
returns-in_err-check_image c =
    let p = err_from_is_err_and c.from_residual.result c.from_residual.ensures.1 in
    rw (p.1, p.2) (judges-refused _ c.check_image.ensures c.in_err-check_image.was)
