-- `sorting::lines::check_lines_room` meets its contract: the room is enough for every image, or the
-- lines are counted.
use mathlib.Core.Path.{sym}
use native.Mathlib.Omega.{arith}
use Rattle.answers.proofs.Checks.{no-room-passes, no-room-counted}
use Rattle.sorting.proofs.lines.check_lines_room.Goals as goal

pub returns-then-room-ge-ENOUGH : goal.returns-then-room-ge-ENOUGH
returns-then-room-ge-ENOUGH c = sym (no-room-passes _ _ (omega (arith, c.requires.size_bound, c.if-room-ge-ENOUGH.true)))

pub returns : goal.returns
returns c = no-room-counted _ _ c.lines_count.ensures c.check_room.ensures
