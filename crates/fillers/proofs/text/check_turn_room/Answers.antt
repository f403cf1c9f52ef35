-- `fillers::text::check_turn_room` meets its contract: the length of the text is enough, or the length
-- needed is counted.
use mathlib.Core.Path.{sym}
use Rattle.answers.proofs.Checks.{no-room-passes, no-room-counted}
use Rattle.fillers.proofs.Turned.{turned-most}
use native.Mathlib.Omega.{arith}
use Rattle.fillers.proofs.text.check_turn_room.Goals as goal

pub returns-then-text-room : goal.returns-then-text-room
returns-then-text-room c = sym (no-room-passes _ _ (omega (arith, turned-most c.args.text.now, c.if-text-room.true)))

pub returns : goal.returns
returns c = no-room-counted _ _ c.turned_count.ensures c.check_room.ensures
