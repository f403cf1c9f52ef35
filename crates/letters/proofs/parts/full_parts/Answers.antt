-- `letters::parts::full_parts` meets its contract: both checks passed where it writes.
use mathlib.Core.Path.{sym}
use Rattle.answers.proofs.Checks.{text-short, no-room-kept}
use Rattle.letters.proofs.parts.full_parts.Goals as goal

pub check_parts_room-requires : goal.check_parts_room-requires
check_parts_room-requires c = text-short _ (sym c.in_ok-check_text.ensures)

pub write_parts-requires : goal.write_parts-requires
write_parts-requires c = no-room-kept _ _ (sym c.in_ok-check_parts_room.ensures)
