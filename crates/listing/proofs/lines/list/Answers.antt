-- `listing::lines::list` meets its contract: both checks passed where it writes.
use mathlib.Core.Path.{sym}
use Rattle.answers.proofs.Checks.{units-short, no-room-kept}
use Rattle.listing.proofs.lines.list.Goals as goal

pub check_list_room-requires : goal.check_list_room-requires
check_list_room-requires c = units-short _ (sym c.in_ok-check_bytes.ensures)

pub list_into-requires : goal.list_into-requires
list_into-requires c = record { text_len_bound = units-short _ (sym c.in_ok-check_bytes.ensures); text_in_bounds = no-room-kept _ _ (sym c.in_ok-check_list_room.ensures) }
