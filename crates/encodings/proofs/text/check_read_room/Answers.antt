-- `encodings::text::check_read_room` meets its contract: one for each unit is enough, or the length
-- is counted.
use Rattle.std.proofs.Common.{arith, sym}
use Rattle.answers.proofs.Checks.{no-room-passes, no-room-counted}
use Rattle.encodings.proofs.Reading.{read-few}
use Rattle.encodings.proofs.text.check_read_room.Goals as goal

pub returns-then-text-room : goal.returns-then-text-room
returns-then-text-room g c =
    let long = g.met.E.EncodingForm.as_long c.args.text.now in
    sym (no-room-passes _ _ (omega (arith, read-few g.E.EncodingForm.form (g.E.EncodingForm.numbers c.args.text.now), c.if-text-room.true)))

pub returns : goal.returns
returns g c = no-room-counted _ _ c.read_count.ensures c.check_room.ensures
