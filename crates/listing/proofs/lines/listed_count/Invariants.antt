-- `listing::lines::listed_count` meets its contract. The loop's invariant: what is counted and what
-- is left to be read make up the list, and the place for a line is as long as it was.
use Prim.Native.Nat.{◌-◌}
use lib.ListN.{length as length_of}
use Rattle.listing.proofs.Turns.{Tallying}
use Rattle.listing.proofs.lines.listed_count.Given as goal

abbrev pub invariant-loop-read : goal.invariant-loop-read
invariant-loop-read l = Tallying l.text l.line l.read l.length

abbrev pub decreases-loop-read : goal.decreases-loop-read
decreases-loop-read l = length_of l.text - l.read
