-- `fillers::text::turn` meets its contract: both checks passed where it writes.
use mathlib.Core.Path.{sym}
use Rattle.answers.proofs.Checks.{no-room-kept}
use Rattle.fillers.proofs.text.turn.Goals as goal

pub turn_into-requires : goal.turn_into-requires
turn_into-requires c = no-room-kept _ _ (sym c.in_ok-check_turn_room.ensures)
