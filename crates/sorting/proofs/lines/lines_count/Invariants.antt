-- `sorting::lines::lines_count` meets its contract. The loop's invariant: what is counted and what
-- is left make up all lines, and no line has more than 11 bytes.
use Rattle.sorting.specs.Printing.{number_line}
use Rattle.laws.proofs.Filling.{Counting}
use Rattle.laws.specs.Lists.{each}
use lib.ListN.{drop}
use Prim.Native.Nat.{◌*◌, ◌≤◌}
use Rattle.sorting.proofs.lines.lines_count.Given as goal

abbrev pub invariant-loop-number : goal.invariant-loop-number
invariant-loop-number l = (l.size ≤ 11 * l.number-index) × Counting (each number_line l.numbers) (each number_line (drop l.number-index l.numbers)) l.size
