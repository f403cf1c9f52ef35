-- `sorting::lines::line_size` meets its contract: the digits of a number, and the line feed.
use native.Mathlib.Omega.{arith}
use Rattle.sorting.proofs.Decimals.{decimal-most}
use Rattle.sorting.proofs.NumberLines.{line-length}
use Rattle.sorting.proofs.lines.line_size.Goals as goal

pub overflow_add-result : goal.overflow_add-result
overflow_add-result c = omega (arith, c.decimal_size.ensures, decimal-most 9 c.args.number (omega (arith, c.ranges.number)))

pub returns : goal.returns
returns c = omega (arith, c.decimal_size.ensures, line-length c.args.number)
