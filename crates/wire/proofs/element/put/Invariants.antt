-- `wire::element::put` meets its contract. In turn i the elements before i are written.
use Prim.Native.Nat.{◌*◌, ◌≤◌}
use lib.ListN.{length, drop}
use Rattle.laws.specs.Lists.{each}
use Rattle.laws.proofs.Filling.{Filling}
use Rattle.wire.proofs.element.put.Given as goal

abbrev pub invariant-loop-i : goal.invariant-loop-i
invariant-loop-i g l = (length (each g.T.Element.bytes_of l.elements) ≤ length l.initial.bytes) × Filling (each g.T.Element.bytes_of l.elements) (each g.T.Element.bytes_of (drop l.i l.elements)) l.initial.bytes l.bytes (g.T.Element.SIZE * l.i)
