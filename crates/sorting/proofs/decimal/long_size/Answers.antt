-- `sorting::decimal::long_size` meets its contract: each arm is the range of its digits.
use native.Mathlib.Omega.{arith}
use Rattle.sorting.proofs.Decimals.{decimal-size}
use Rattle.sorting.proofs.decimal.long_size.Goals as goal

pub returns-in-0-to-9999 : goal.returns-in-0-to-9999
returns-in-0-to-9999 c = decimal-size 3 _ (omega (arith, c.requires)) (omega arith)

pub returns-in-10000-to-99999 : goal.returns-in-10000-to-99999
returns-in-10000-to-99999 c = decimal-size 4 _ (omega arith) (omega arith)

pub returns-in-100000-to-999999 : goal.returns-in-100000-to-999999
returns-in-100000-to-999999 c = decimal-size 5 _ (omega arith) (omega arith)

pub returns-in-1000000-to-9999999 : goal.returns-in-1000000-to-9999999
returns-in-1000000-to-9999999 c = decimal-size 6 _ (omega arith) (omega arith)

pub returns-in-10000000-to-99999999 : goal.returns-in-10000000-to-99999999
returns-in-10000000-to-99999999 c = decimal-size 7 _ (omega arith) (omega arith)

pub returns-in-100000000-to-999999999 : goal.returns-in-100000000-to-999999999
returns-in-100000000-to-999999999 c = decimal-size 8 _ (omega arith) (omega arith)

pub returns-in_default : goal.returns-in_default
returns-in_default c = decimal-size 9 _ (omega arith) (omega (arith, c.ranges.number))
