-- `clusters::simple::check_simple_room` meets its contract: seven for each code point are enough, or the
-- length is counted.
use mathlib.Core.Path.{sym}
use Rattle.clusters.proofs.SimpleForm.{simple-most}
use Rattle.answers.proofs.Checks.{no-room-passes, no-room-counted}
use native.Mathlib.Omega.{arith}
use Rattle.clusters.proofs.simple.check_simple_room.Goals as goal

pub returns-then-text-room : goal.returns-then-text-room
returns-then-text-room c = sym (no-room-passes _ _ (omega (arith, simple-most c.args.text.now, c.if-text-room.true)))

pub returns : goal.returns
returns c = no-room-counted _ _ c.simple_count.ensures c.check_room.ensures
