use Rattle.std.proofs.Common.{refl, arith}
use Rattle.laws.proofs.Filling.{counting_more, counting-all}
use Rattle.encodings.proofs.Taking.{taken-within}
use Rattle.encodings.proofs.Reading.{next-piece, read-end}
use Rattle.encodings.proofs.text.read_count.Goals as goal

pub overflow_add-at : goal.overflow_add-at
overflow_add-at g c =
    let units = g.E.EncodingForm.numbers c.args.text.now in
    let long = g.met.E.EncodingForm.as_long c.args.text.now in
    let next = taken-within g.E.EncodingForm.form units long c.loop-at-test.true c.read_at-taken.ensures in
    omega (arith, next.inside, c.requires)

pub loop-at-smaller : goal.loop-at-smaller
loop-at-smaller g c =
    let units = g.E.EncodingForm.numbers c.args.text.now in
    let long = g.met.E.EncodingForm.as_long c.args.text.now in
    let next = taken-within g.E.EncodingForm.form units long c.loop-at-test.true c.read_at-taken.ensures in
    omega (arith, next.inside, next.more, c.loop-at-test.true)

pub loop-at-preserved : goal.loop-at-preserved
loop-at-preserved g c =
    let units = g.E.EncodingForm.numbers c.args.text.now in
    let long = g.met.E.EncodingForm.as_long c.args.text.now in
    let next = taken-within g.E.EncodingForm.form units long c.loop-at-test.true c.read_at-taken.ensures in
    (omega (arith, next.inside), omega (arith, next.more), counting_more c.loop-at.invariant.2 (next-piece next) refl)

pub returns : goal.returns
returns g c =
    let units = g.E.EncodingForm.numbers c.args.text.now in
    let long = g.met.E.EncodingForm.as_long c.args.text.now in
    counting-all c.loop-at.invariant.2 (read-end g.E.EncodingForm.form units _ (omega (arith, c.loop-at-test.false)))
