-- `mending::character::general_at` meets its contract: what begins at the index, with nothing, one
-- piece or two taken in.
use native.Mathlib.Omega.{arith}
use Rattle.encodings.proofs.Taking.{test-true, test-false}
use Rattle.mending.proofs.Characters.{one_inside, character-of-one, two-inside, character-of-two, character-of-three}
use Rattle.mending.proofs.character.general_at.Goals as goal

pub returns-then-not-goes_on : goal.returns-then-not-goes_on
returns-then-not-goes_on g c = character-of-one g.E.EncodingForm.form (g.E.EncodingForm.numbers c.args.text.now) c.args.at
    c.read_at-first.ensures (test-false c.goes_on.ensures c.if-not-goes_on.true)

pub grow-second-requires : goal.grow-second-requires
grow-second-requires g c =
    let long = g.met.E.EncodingForm.as_long c.args.text.now in
    omega (
      arith,
      long,
      one_inside g.E.EncodingForm.form (g.E.EncodingForm.numbers c.args.text.now) c.args.at
          c.read_at-first.ensures (test-true c.goes_on.ensures c.if-not-goes_on.false),
    )

pub returns-then-not-goes_on-2 : goal.returns-then-not-goes_on-2
returns-then-not-goes_on-2 g c = character-of-two g.E.EncodingForm.form (g.E.EncodingForm.numbers c.args.text.now) c.args.at
    c.read_at-first.ensures c.grow-second.ensures (test-false c.goes_on-2.ensures c.if-not-goes_on-2.true)

pub grow-requires : goal.grow-requires
grow-requires g c =
    let long = g.met.E.EncodingForm.as_long c.args.text.now in
    omega (
      arith,
      long,
      two-inside g.E.EncodingForm.form (g.E.EncodingForm.numbers c.args.text.now) c.args.at
          c.read_at-first.ensures c.grow-second.ensures (test-true c.goes_on.ensures c.if-not-goes_on.false),
    )

pub returns : goal.returns
returns g c = character-of-three g.E.EncodingForm.form (g.E.EncodingForm.numbers c.args.text.now) c.args.at
    c.read_at-first.ensures c.grow-second.ensures c.grow.ensures
