-- `mending::character::grow` meets its contract: what begins after the character does not join with
-- it, or is taken in.
use lib.ListN.{drop}
use Prim.Native.Nat.{◌+◌}
use native.Mathlib.Omega.{arith}
use Rattle.encodings.specs.Forms.{pieces_in}
use Rattle.joining.proofs.Pairs.{nonzero-none, nonzero-some, nonzero-not}
use Rattle.mending.proofs.Characters.{grown-once-stays, grown-once-takes, taken-inside}
use Rattle.mending.proofs.character.grow.Goals as goal

pub returns-in-None : goal.returns-in-None
returns-in-None g c =
    let form = g.E.EncodingForm.form in
    let units = g.E.EncodingForm.numbers c.args.text.now in
    grown-once-stays form _ (pieces_in form (drop (c.args.at + c.args.taken.size) units)) c.read_at-next.ensures (nonzero-none _ c.in-None.ensures)

pub overflow_add-result : goal.overflow_add-result
overflow_add-result g c =
    let units = g.E.EncodingForm.numbers c.args.text.now in
    let long = g.met.E.EncodingForm.as_long c.args.text.now in
    omega (arith, taken-inside g.E.EncodingForm.form units _ c.read_at-next.ensures (omega (arith, c.requires, long)), long)

pub returns-in-Some : goal.returns-in-Some
returns-in-Some g c =
    let form = g.E.EncodingForm.form in
    let units = g.E.EncodingForm.numbers c.args.text.now in
    grown-once-takes form _ (pieces_in form (drop (c.args.at + c.args.taken.size) units)) c.read_at-next.ensures
    (nonzero-some _ c.in-Some.ensures) (nonzero-not _ c.in-Some.ensures)
