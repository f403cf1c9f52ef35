-- `mending_units::unchanged::singles` meets its contract. The loop's invariant: the units between
-- the start and the index are quiet.
use Rattle.mending_units.specs.Inner.{Trails}
use Rattle.mending_units.proofs.unchanged.singles.Given as goal

abbrev pub invariant-loop-at : goal.invariant-loop-at
invariant-loop-at l = Trails l.text l.from l.at
