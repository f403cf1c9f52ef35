-- `mending::text::mend_into` meets its contract: the loop's invariant: what is written and what is
-- left to be read make up the mended text.
use lib.ListN.{length}
use Prim.Native.Nat.{◌-◌}
use Rattle.utf8.specs.Utf8.{form8}
use Rattle.mending.proofs.Turns.{Writing}
use Rattle.mending.proofs.text.mend_into.Given as goal

abbrev pub invariant-loop-s : goal.invariant-loop-s
invariant-loop-s l = Writing form8 l.text l.initial.out l.out l.s

abbrev pub decreases-loop-s : goal.decreases-loop-s
decreases-loop-s l = length l.text - l.s.read
