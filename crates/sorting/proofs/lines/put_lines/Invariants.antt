-- `sorting::lines::put_lines` meets its contract. The loop's invariant: what is written and what is
-- left make up all lines.
use Rattle.sorting.specs.Printing.{number_line}
use Rattle.laws.proofs.Filling.{Filling}
use Rattle.laws.specs.Lists.{each}
use lib.ListN.{drop}
use Rattle.sorting.proofs.lines.put_lines.Given as goal

abbrev pub invariant-loop-number : goal.invariant-loop-number
invariant-loop-number l = Filling (each number_line l.numbers) (each number_line (drop l.number-index l.numbers)) l.initial.out l.out l.at
