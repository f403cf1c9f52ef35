-- `encodings::text::read_count` meets its contract. The loop's invariant: at most one code point
-- is counted for each unit, and what is counted and what is left to be read make up the whole.
use Rattle.std.proofs.Common.{length, drop, ◌≤◌, ◌-◌}
use Rattle.laws.proofs.Filling.{Counting}
use Rattle.encodings.specs.Forms.{read_in}
use Rattle.encodings.proofs.text.read_count.Given as goal

abbrev pub invariant-loop-at : goal.invariant-loop-at
invariant-loop-at g l =
    let e = g.E.EncodingForm in
    (l.at ≤ length l.text) × (l.count ≤ l.at) × Counting (read_in e.form (e.numbers l.text)) (read_in e.form (drop l.at (e.numbers l.text))) l.count

abbrev pub decreases-loop-at : goal.decreases-loop-at
decreases-loop-at g l = length l.text - l.at
