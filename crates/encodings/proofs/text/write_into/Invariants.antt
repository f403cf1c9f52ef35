-- `encodings::text::write_into` meets its contract. The loop's invariant: what is written and what
-- is left make up the whole.
use Rattle.std.proofs.Common.{drop}
use Rattle.laws.specs.Lists.{each}
use Rattle.laws.proofs.Filling.{Filling}
use Rattle.encodings.specs.Forms.{write_in}
use Rattle.encodings.proofs.text.write_into.Given as goal

abbrev pub invariant-loop-code : goal.invariant-loop-code
invariant-loop-code g l =
    let e = g.E.EncodingForm in
    Filling (write_in e.form l.text) (each e.form.units (drop l.code-index l.text)) (e.numbers l.initial.out) (e.numbers l.out) l.at
