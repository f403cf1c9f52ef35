-- `sorting::records::place_of` meets its contract. The loop's invariant: the place is between the
-- two indices, which come nearer.
use Prim.Native.Nat.{◌-◌}
use Rattle.sorting.proofs.Placing.{Between}
use Rattle.sorting.proofs.records.place_of.Given as goal

abbrev pub invariant-loop-low : goal.invariant-loop-low
invariant-loop-low l = Between l.image l.numbers l.number l.low l.high

abbrev pub decreases-loop-low : goal.decreases-loop-low
decreases-loop-low l = l.high - l.low
