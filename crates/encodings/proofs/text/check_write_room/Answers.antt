-- `encodings::text::check_write_room` meets its contract: the most units for each code point are enough, or the
-- length is counted.
use Rattle.std.proofs.Common.{◌≤◌, length, arith, sym}
use Rattle.std.proofs.Math.Nat.{mul-le-mul_left}
use Rattle.answers.proofs.Checks.{no-room-passes, no-room-counted}
use Rattle.encodings.proofs.Texts.{write-most}
use Rattle.encodings.proofs.text.check_write_room.Goals as goal

pub overflow_mul-MOST : goal.overflow_mul-MOST
overflow_mul-MOST g c =
    let most : c.MOST.result ≤ 4 = omega (arith, g.met.E.EncodingForm.small, c.MOST.ensures) in
    omega (arith, mul-le-mul_left (length c.args.text.now) most, c.requires)

pub returns-then-MOST-text : goal.returns-then-MOST-text
returns-then-MOST-text g c =
    let most = write-most g.E.EncodingForm.form g.met.E.EncodingForm.few c.args.text.now in
    sym (no-room-passes _ _ (omega (arith, rw (← c.MOST.ensures) at most, c.if-MOST-text.true)))

pub returns : goal.returns
returns g c = no-room-counted _ _ c.write_count.ensures c.check_room.ensures
