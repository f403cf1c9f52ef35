-- `joining::text::join` meets its contract: both checks passed where it writes.
use mathlib.Core.Path.{sym}
use Rattle.answers.proofs.Checks.{text-short, no-room-kept}
use Rattle.joining.proofs.text.join.Goals as goal

pub check_join_room-requires : goal.check_join_room-requires
check_join_room-requires c = text-short _ (sym c.in_ok-check_text.ensures)

pub write_joined-requires : goal.write_joined-requires
write_joined-requires c = no-room-kept _ _ (sym c.in_ok-check_join_room.ensures)
