-- `mending_units::unchanged::fours` meets its contract. The loop's invariant: what lies between the
-- start and the index passes.
use Prim.Native.Nat.{◌-◌}
use lib.ListN.{length}
use Rattle.mending_units.specs.Inner.{PassesUnits}
use Rattle.mending_units.proofs.unchanged.fours.Given as goal

abbrev pub invariant-loop-at : goal.invariant-loop-at
invariant-loop-at l = PassesUnits l.text l.from l.at

abbrev pub decreases-loop-at : goal.decreases-loop-at
decreases-loop-at l = length l.text - l.at
