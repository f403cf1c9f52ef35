-- `joining::text::check_join_room` meets its contract: as much as the text has is enough, or the length is
-- counted.
use mathlib.Core.Path.{sym}
use Rattle.joining.proofs.Joins.{join-most}
use Rattle.answers.proofs.Checks.{no-room-passes, no-room-counted}
use native.Mathlib.Omega.{arith}
use Rattle.joining.proofs.text.check_join_room.Goals as goal

pub returns-then-text-room : goal.returns-then-text-room
returns-then-text-room c = sym (no-room-passes _ _ (omega (arith, join-most c.args.text.now, c.if-text-room.true)))

pub returns : goal.returns
returns c = no-room-counted _ _ c.joined_count.ensures c.check_room.ensures
