-- `mending::length::mended_count` meets its contract: the loop's invariant is that what is counted
-- and what is left make up the mended text.
use lib.ListN.{length}
use Prim.Native.Nat.{◌-◌}
use Rattle.utf8.specs.Utf8.{form8}
use Rattle.mending.proofs.Turns.{Tallying}
use Rattle.mending.proofs.length.mended_count.Given as goal

abbrev pub invariant-loop-s : goal.invariant-loop-s
invariant-loop-s l = Tallying form8 l.text l.s

abbrev pub decreases-loop-s : goal.decreases-loop-s
decreases-loop-s l = length l.text - l.s.read
