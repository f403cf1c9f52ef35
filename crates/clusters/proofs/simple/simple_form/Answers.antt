-- `clusters::simple::simple_form` meets its contract: both checks passed where it writes.
use mathlib.Core.Path.{sym}
use Rattle.answers.proofs.Checks.{text-short, no-room-kept}
use Rattle.clusters.proofs.simple.simple_form.Goals as goal

pub check_simple_room-requires : goal.check_simple_room-requires
check_simple_room-requires c = text-short _ (sym c.in_ok-check_text.ensures)

pub simple_into-requires : goal.simple_into-requires
simple_into-requires c = no-room-kept _ _ (sym c.in_ok-check_simple_room.ensures)
