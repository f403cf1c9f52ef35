use Rattle.std.proofs.Common.{arith}
use Rattle.laws.proofs.Filling.{each-piece, counting-fits, counting_more, counting-all}
use Rattle.laws.proofs.Lists.{each-end}
use Rattle.encodings.proofs.Texts.{write-short}
use Rattle.encodings.proofs.text.write_count.Goals as goal

pub overflow_add-count : goal.overflow_add-count
overflow_add-count g c =
    let f = g.E.EncodingForm.form in
    let fits = counting-fits c.loop-code.invariant (each-piece f.units 0 _ _ c.loop-code-test.true) c.size_of-count.ensures in
    omega (arith, fits, write-short f g.met.E.EncodingForm.few g.met.E.EncodingForm.small c.args.text.now, c.requires)

pub loop-code-preserved : goal.loop-code-preserved
loop-code-preserved g c =
    counting_more c.loop-code.invariant (each-piece g.E.EncodingForm.form.units 0 _ _ c.loop-code-test.true) c.size_of-count.ensures

pub returns : goal.returns
returns g c = counting-all c.loop-code.invariant (each-end g.E.EncodingForm.form.units _ _ c.loop-code-test.false)
