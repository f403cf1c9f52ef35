-- `utf8::decode::first_ill` meets its contract. The loop's invariant: the first ill-formed subpart
-- from the index on is the text's first.
use Prim.Native.Nat.{◌+◌, ◌≤◌, ◌-◌}
use lib.ListN.{length, drop}
use Rattle.utf8.specs.Utf8.{first_ill}
use mathlib.Core.Path.{◌≡◌}
use Rattle.utf8.proofs.decode.first_ill.Given as goal

abbrev pub invariant-loop-at : goal.invariant-loop-at
invariant-loop-at l = (l.at ≤ length l.text) × (l.at + first_ill (drop l.at l.text) ≡ first_ill l.text)

abbrev pub decreases-loop-at : goal.decreases-loop-at
decreases-loop-at l = length l.text - l.at
