-- `listing::lines::check_list_room` meets its contract: ten for each byte are enough, or the length is
-- counted.
use mathlib.Core.Path.{sym}
use native.Mathlib.Omega.{arith}
use Rattle.answers.proofs.Checks.{no-room-passes, no-room-counted}
use Rattle.listing.proofs.Bound.{listed-most}
use Rattle.listing.proofs.lines.check_list_room.Goals as goal

pub returns-then-text-room : goal.returns-then-text-room
returns-then-text-room c = sym (no-room-passes _ _ (omega (arith, listed-most c.args.text.now, c.if-text-room.true)))

pub returns : goal.returns
returns c = no-room-counted _ _ c.listed_count.ensures c.check_room.ensures
