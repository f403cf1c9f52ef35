use Rattle.std.proofs.Common.{length, ◌≤◌, arith}
use Rattle.answers.proofs.Checks.{taken-most}
use Rattle.laws.proofs.Filling.{each-piece, filling-room, filling-more, filling-all}
use Rattle.laws.proofs.Lists.{each-end}
use Rattle.encodings.specs.Forms.{write_in}
use Rattle.encodings.proofs.Texts.{wrote-all}
use Rattle.encodings.proofs.text.write_into.Goals as goal

pub loop-code-preserved : goal.loop-code-preserved
loop-code-preserved g c =
    let e = g.E.EncodingForm in
    let long = g.met.E.EncodingForm.as_long c.args.out.now in
    let room : length (write_in e.form c.args.text.now) ≤ length (e.numbers c.args.out.now) = omega (arith, c.requires.text_in_bounds) in
    let piece = each-piece e.form.units 0 c.args.text.now c.loop-code.code-index c.loop-code-test.true in
    let most = taken-most _ c.requires.text_value _ c.loop-code-test.true in
    filling-more room c.loop-code.invariant piece (wrote-all e.form _ _ _ most (filling-room room c.loop-code.invariant piece) c.put_at-at.ensures)

pub returns : goal.returns
returns g c = filling-all c.loop-code.invariant (each-end g.E.EncodingForm.form.units _ _ c.loop-code-test.false)
