-- `letters::parts::check_parts_room` meets its contract: three for each code point are enough, or
-- the length is counted.
use mathlib.Core.Path.{sym}
use Rattle.letters.proofs.FullParts.{full-most}
use Rattle.answers.proofs.Checks.{no-room-passes, no-room-counted}
use native.Mathlib.Omega.{arith}
use Rattle.letters.proofs.parts.check_parts_room.Goals as goal

pub returns-then-text-room : goal.returns-then-text-room
returns-then-text-room c = sym (no-room-passes _ _ (omega (arith, full-most c.args.text.now, c.if-text-room.true)))

pub returns : goal.returns
returns c = no-room-counted _ _ c.parts_count.ensures c.check_room.ensures
