-- `sorting::records::order_into` meets its contract. The loop's invariant: the first records are in
-- order, and the rest of the buffer is as it was.
use Rattle.sorting.specs.Sorting.{standing, sorted_by}
use Rattle.laws.specs.Writing.{front}
use mathlib.Core.Path.{◌≡◌}
use Rattle.sorting.proofs.records.order_into.Given as goal

abbrev pub invariant-loop-number : goal.invariant-loop-number
invariant-loop-number l = l.out ≡ front (sorted_by (standing l.image) l.number) l.initial.out
