-- `mending_units::text::check_mend_room` meets its contract: as many as come in are enough, or the
-- length is counted.
use mathlib.Core.Path.{sym}
use Rattle.answers.proofs.Checks.{no-room-passes}
use native.Mathlib.Omega.{arith}
use Rattle.mending_units.proofs.Bound.{mended-most}
use Rattle.mending_units.proofs.text.check_mend_room.Goals as goal

pub returns-then-text-room : goal.returns-then-text-room
returns-then-text-room c = sym (no-room-passes _ _ (omega (arith, mended-most c.args.text.now, c.if-text-room.true)))
