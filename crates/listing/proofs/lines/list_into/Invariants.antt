-- `listing::lines::list_into` meets its contract. The loop's invariant: what is written and what is
-- left to be read make up the list.
use Prim.Native.Nat.{◌-◌}
use lib.ListN.{length}
use Rattle.listing.proofs.Turns.{Writing}
use Rattle.listing.proofs.lines.list_into.Given as goal

abbrev pub invariant-loop-read : goal.invariant-loop-read
invariant-loop-read l = Writing l.text l.initial.out l.out l.read l.written

abbrev pub decreases-loop-read : goal.decreases-loop-read
decreases-loop-read l = length l.text - l.read
