-- `clusters::gathered::gathered_form` meets its contract: both checks passed where it writes.
use mathlib.Core.Path.{sym}
use Rattle.answers.proofs.Checks.{text-short, no-room-kept}
use Rattle.clusters.proofs.gathered.gathered_form.Goals as goal

pub check_gathered_room-requires : goal.check_gathered_room-requires
check_gathered_room-requires c = text-short _ (sym c.in_ok-check_text.ensures)

pub gathered_into-requires : goal.gathered_into-requires
gathered_into-requires c = no-room-kept _ _ (sym c.in_ok-check_gathered_room.ensures)
