-- `sorting::decimal::decimal_size` meets its contract: each return is the range of its digits.
use mathlib.Core.Path.{sym}
use native.Mathlib.Omega.{arith}
use Rattle.sorting.proofs.Decimals.{decimal-short, decimal-size}
use Rattle.sorting.proofs.decimal.decimal_size.Goals as goal

pub returns-then-number-ge1000 : goal.returns-then-number-ge1000
returns-then-number-ge1000 c = c.long_size.ensures

pub returns-then-number-ge100 : goal.returns-then-number-ge100
returns-then-number-ge100 c = decimal-size 2 _ (omega (arith, c.if-number-ge100.true)) (omega (arith, c.if-number-ge1000.false))

pub returns-then-number-ge10 : goal.returns-then-number-ge10
returns-then-number-ge10 c = decimal-size 1 _ (omega (arith, c.if-number-ge10.true)) (omega (arith, c.if-number-ge100.false))

pub returns : goal.returns
returns c = sym (decimal-short _ (omega (arith, c.if-number-ge10.false)))
