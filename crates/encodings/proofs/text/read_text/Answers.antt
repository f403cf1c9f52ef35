-- `encodings::text::read_text` meets its contract: both checks passed where it writes.
use Rattle.std.proofs.Common.{arith, sym}
use Rattle.answers.proofs.Checks.{units-short, no-room-kept}
use Rattle.encodings.proofs.Reading.{reads-done}
use Rattle.encodings.proofs.text.read_text.Goals as goal

pub check_read_room-requires : goal.check_read_room-requires
check_read_room-requires g c =
    let long = g.met.E.EncodingForm.as_long c.args.text.now in
    omega (arith, units-short _ (sym c.in_ok-check.ensures))

pub read_into-requires : goal.read_into-requires
read_into-requires g c =
    let long = g.met.E.EncodingForm.as_long c.args.text.now in
    record {
      text_len_bound = omega (arith, units-short _ (sym c.in_ok-check.ensures));
      text_in_bounds = no-room-kept _ _ (sym c.in_ok-check_read_room.ensures);
    }

pub returns : goal.returns
returns g c = reads-done (sym c.in_ok-check.ensures) c.check_read_room.ensures c.in_ok-check_read_room.was c.read_into.ensures
