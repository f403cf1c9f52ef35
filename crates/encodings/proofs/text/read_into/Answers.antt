use Rattle.std.proofs.Common.{refl, arith}
use Rattle.laws.proofs.Filling.{wrote_one, room-one, filling-room, filling-more, filling-all}
use Rattle.encodings.proofs.Reading.{next-piece, next-ills, read-end, ills-end}
use Rattle.encodings.proofs.Taking.{taken-within}
use Rattle.encodings.proofs.text.read_into.Goals as goal

pub bounds-out-length : goal.bounds-out-length
bounds-out-length g c =
    let units = g.E.EncodingForm.numbers c.args.text.now in
    let long = g.met.E.EncodingForm.as_long c.args.text.now in
    let next = taken-within g.E.EncodingForm.form units long c.loop-read-test.true c.read_at-taken.ensures in
    room-one (filling-room c.requires.text_in_bounds c.loop-read.invariant.2 (next-piece next)) refl

pub overflow_add-ills : goal.overflow_add-ills
overflow_add-ills g c =
    let units = g.E.EncodingForm.numbers c.args.text.now in
    let long = g.met.E.EncodingForm.as_long c.args.text.now in
    let next = taken-within g.E.EncodingForm.form units long c.loop-read-test.true c.read_at-taken.ensures in
    omega (arith, next.few, c.requires.text_len_bound)

pub overflow_add-read : goal.overflow_add-read
overflow_add-read g c =
    let units = g.E.EncodingForm.numbers c.args.text.now in
    let long = g.met.E.EncodingForm.as_long c.args.text.now in
    let next = taken-within g.E.EncodingForm.form units long c.loop-read-test.true c.read_at-taken.ensures in
    omega (arith, next.inside, c.requires.text_len_bound)

pub loop-read-smaller : goal.loop-read-smaller
loop-read-smaller g c =
    let units = g.E.EncodingForm.numbers c.args.text.now in
    let long = g.met.E.EncodingForm.as_long c.args.text.now in
    let next = taken-within g.E.EncodingForm.form units long c.loop-read-test.true c.read_at-taken.ensures in
    omega (arith, next.inside, next.more, c.loop-read-test.true)

pub loop-read-preserved : goal.loop-read-preserved
loop-read-preserved g c =
    let units = g.E.EncodingForm.numbers c.args.text.now in
    let long = g.met.E.EncodingForm.as_long c.args.text.now in
    let next = taken-within g.E.EncodingForm.form units long c.loop-read-test.true c.read_at-taken.ensures in (
      omega (arith, next.inside),
      omega (arith, next.more, next.few),
      filling-more c.requires.text_in_bounds c.loop-read.invariant.2 (next-piece next) (wrote_one refl),
      next-ills next c.loop-read.invariant.3,
    )

pub returns : goal.returns
returns g c =
    let units = g.E.EncodingForm.numbers c.args.text.now in
    let long = g.met.E.EncodingForm.as_long c.args.text.now in
    record {
      fronts = filling-all c.loop-read.invariant.2 (read-end g.E.EncodingForm.form units _ (omega (arith, c.loop-read-test.false)));
      ills = ills-end g.E.EncodingForm.form units _ (omega (arith, c.loop-read-test.false)) c.loop-read.invariant.3;
    }
