-- `sorting::decimal::put_decimal` meets its contract. The loop's invariant: the digits after `next`
-- are written, and those of `rest` are left.
use Rattle.sorting.specs.Decimals.{decimal_of}
use Rattle.sorting.proofs.Backing.{Backing}
use Rattle.sorting.proofs.decimal.put_decimal.Given as goal

abbrev pub invariant-loop-rest : goal.invariant-loop-rest
invariant-loop-rest l = Backing (decimal_of l.number) l.at l.initial.out l.out l.rest l.next

abbrev pub decreases-loop-rest : goal.decreases-loop-rest
decreases-loop-rest l = l.rest
