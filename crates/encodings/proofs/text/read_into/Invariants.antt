-- `encodings::text::read_into` meets its contract. The loop's invariant: at most one ill-formed
-- subpart is counted for each unit; what is written and what is left to be read make up the whole,
-- and so do the ill-formed subparts counted and those that are left.
use Rattle.std.proofs.Common.{length, drop, ◌≤◌, ◌-◌}
use Rattle.laws.proofs.Filling.{Filling}
use Rattle.encodings.specs.Forms.{read_in}
use Rattle.encodings.proofs.Reading.{Ills}
use Rattle.encodings.proofs.text.read_into.Given as goal

abbrev pub invariant-loop-read : goal.invariant-loop-read
invariant-loop-read g l =
    let e = g.E.EncodingForm in
    let units = e.numbers l.text in
    (l.read ≤ length l.text) × (l.ills ≤ l.read) × Filling (read_in e.form units) (read_in e.form (drop l.read units)) l.initial.out l.out l.length × Ills e.form units l.read l.ills

abbrev pub decreases-loop-read : goal.decreases-loop-read
decreases-loop-read g l = length l.text - l.read
