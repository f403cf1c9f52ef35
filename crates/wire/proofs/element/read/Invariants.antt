-- `wire::element::read` meets its contract. In turn i the elements before i are read.
use lib.ListN.{length}
use Rattle.wire.specs.Numbers.{elements_of}
use Rattle.wire.proofs.Filling.{Overwriting}
use Rattle.wire.proofs.element.read.Given as goal

abbrev pub invariant-loop-i : goal.invariant-loop-i
invariant-loop-i g l = Overwriting (elements_of g.T.Element.SIZE g.T.Element.first (length l.initial.out) l.bytes) l.initial.out l.out l.i
