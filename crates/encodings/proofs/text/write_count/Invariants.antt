-- `encodings::text::write_count` meets its contract. The loop's invariant: what is counted and what
-- is left make up the whole.
use Rattle.std.proofs.Common.{drop}
use Rattle.laws.specs.Lists.{each}
use Rattle.laws.proofs.Filling.{Counting}
use Rattle.encodings.specs.Forms.{write_in}
use Rattle.encodings.proofs.text.write_count.Given as goal

abbrev pub invariant-loop-code : goal.invariant-loop-code
invariant-loop-code g l =
    let f = g.E.EncodingForm.form in
    Counting (write_in f l.text) (each f.units (drop l.code-index l.text)) l.count
