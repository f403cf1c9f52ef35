-- `mending::unchanged::ones` meets its contract. The loop's invariant: what lies between the start
-- and the index passes.
use Rattle.mending.specs.Inner.{Passes}
use Rattle.mending.proofs.unchanged.ones.Given as goal

abbrev pub invariant-loop-at : goal.invariant-loop-at
invariant-loop-at l = Passes l.text l.from l.at
