-- `labels::image::judge_records` meets its contract. The loop's invariant: the records from the
-- number on are judged as all are.
use Rattle.labels.proofs.Judging.{Judging}
use Rattle.labels.proofs.image.judge_records.Given as goal

abbrev pub invariant-loop-number : goal.invariant-loop-number
invariant-loop-number l = Judging l.image l.number
