use native.Mathlib.Omega.{arith}
use Rattle.laws.proofs.Filling.{counting-none, counting_more, counting-all}
use Rattle.sorting.proofs.NumberLines.{u32-line, line-piece, line-end}
use Rattle.sorting.proofs.lines.lines_count.Goals as goal

pub loop-number-init : goal.loop-number-init
loop-number-init c = (omega arith, counting-none _)

pub overflow_add-size : goal.overflow_add-size
overflow_add-size c = let word = c.type_inv.numbers c.loop-number.number-index in
    omega (arith, c.requires, c.loop-number.invariant.0, c.loop-number-test.true, u32-line c.line_size-size.ensures (omega (arith, word)))

pub loop-number-preserved : goal.loop-number-preserved
loop-number-preserved c = (
  let word = c.type_inv.numbers c.loop-number.number-index in
      omega (arith, c.loop-number.invariant.0, u32-line c.line_size-size.ensures (omega (arith, word))),
  counting_more c.loop-number.invariant.1 (line-piece c.args.numbers.now c.loop-number.number-index (omega (arith, c.loop-number-test.true))) c.line_size-size.ensures,
)

pub returns : goal.returns
returns c = counting-all c.loop-number.invariant.1 (line-end c.args.numbers.now c.loop-number.number-index (omega (arith, c.loop-number-test.false)))
