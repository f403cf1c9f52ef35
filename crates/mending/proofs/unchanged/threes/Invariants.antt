-- `mending::unchanged::threes` meets its contract. The loop's invariant: what lies between the
-- start and the index passes.
use Rattle.mending.specs.Inner.{Passes}
use lib.ListN.{length}
use Prim.Native.Nat.{◌-◌}
use Rattle.mending.proofs.unchanged.threes.Given as goal

abbrev pub invariant-loop-at : goal.invariant-loop-at
invariant-loop-at l = Passes l.text l.from l.at

abbrev pub decreases-loop-at : goal.decreases-loop-at
decreases-loop-at l = length l.text - l.at
