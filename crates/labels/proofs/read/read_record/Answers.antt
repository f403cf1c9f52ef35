-- `labels::read::read_record` meets its contract: the checks refuse, or the rest is done.
use mathlib.Core.Path.{sym}
use Rattle.labels.proofs.read.read_record.Goals as goal

pub read_checked-requires : goal.read_checked-requires
read_checked-requires c = sym c.in_ok-check_one.ensures
