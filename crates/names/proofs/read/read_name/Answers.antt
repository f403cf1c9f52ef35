-- `names::read::read_name` meets its contract: the check refuses, or the name has passed it.
use mathlib.Core.Path.{sym}
use Rattle.names.proofs.Found.{reads-checked}
use Rattle.names.proofs.read.read_name.Goals as goal

pub read_checked-requires : goal.read_checked-requires
read_checked-requires c = sym c.in_ok-check_bytes.ensures
