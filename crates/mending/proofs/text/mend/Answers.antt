-- `mending::text::mend` meets its contract: both checks passed where it writes.
use mathlib.Core.Path.{sym}
use Rattle.answers.proofs.Checks.{units-short, no-room-kept}
use Rattle.encodings.proofs.Reading.{reads-done}
use Rattle.mending.proofs.text.mend.Goals as goal

pub check_mend_room-requires : goal.check_mend_room-requires
check_mend_room-requires c = units-short _ (sym c.in_ok-check_bytes.ensures)

pub mend_into-requires : goal.mend_into-requires
mend_into-requires c = record { text_len_bound = units-short _ (sym c.in_ok-check_bytes.ensures); text_in_bounds = no-room-kept _ _ (sym c.in_ok-check_mend_room.ensures) }

pub returns : goal.returns
returns c = reads-done (sym c.in_ok-check_bytes.ensures) c.check_mend_room.ensures c.in_ok-check_mend_room.was c.mend_into.ensures
