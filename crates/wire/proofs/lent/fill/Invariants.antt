-- `wire::lent::fill` meets its contract. In turn i the elements before i are filled.
use lib.ListN.{length, replicate}
use Rattle.wire.proofs.Filling.{Overwriting}
use Rattle.wire.proofs.lent.fill.Given as goal

abbrev pub invariant-loop-element : goal.invariant-loop-element
invariant-loop-element g l = Overwriting (replicate (length l.initial.out) g.T.Lent.FILL) l.initial.out l.out l.element-index
