-- `encodings::text::write_text` meets its contract: both checks passed where it writes. A buffer has
-- as many numbers as units.
use Rattle.std.proofs.Common.{sym}
use Rattle.std.proofs.lemmas.Result.{err_from_is_err_and}
use Rattle.answers.proofs.Verdicts.{makes-lacking, makes-done}
use Rattle.answers.proofs.Checks.{text-short, no-room-kept}
use Rattle.encodings.specs.Forms.{write_in}
use Rattle.encodings.proofs.text.write_text.Goals as goal

pub check_write_room-requires : goal.check_write_room-requires
check_write_room-requires g c = text-short _ (sym c.in_ok-check_text.ensures)

pub returns-in_err-check_write_room : goal.returns-in_err-check_write_room
returns-in_err-check_write_room g c =
    let p = err_from_is_err_and c.from_residual-in_err-check_write_room.result c.from_residual-in_err-check_write_room.ensures.1 in
    rw (p.1, p.2)
    (makes-lacking (write_in g.E.EncodingForm.form) (sym c.in_ok-check_text.ensures)
    (rw (← (g.met.E.EncodingForm.as_long c.args.out.now)) at c.check_write_room.ensures) c.in_err-check_write_room.was)

pub write_into-requires : goal.write_into-requires
write_into-requires g c = record {
  text_value = sym c.in_ok-check_text.ensures;
  text_in_bounds = no-room-kept _ _ (sym c.in_ok-check_write_room.ensures);
}

pub returns : goal.returns
returns g c =
    makes-done (write_in g.E.EncodingForm.form) (sym c.in_ok-check_text.ensures)
    (rw (← (g.met.E.EncodingForm.as_long c.args.out.now)) at c.check_write_room.ensures) c.in_ok-check_write_room.was
    c.write_into.ensures
