use native.Mathlib.Omega.{arith}
use Rattle.sorting.proofs.NumberLines.{line-piece, line-end}
use Rattle.laws.proofs.Filling.{filling-none, filling-room, filling-more, filling-all}
use Rattle.sorting.proofs.lines.put_lines.Goals as goal

pub loop-number-init : goal.loop-number-init
loop-number-init c = filling-none _ _

pub put-at-requires : goal.put-at-requires
put-at-requires c = filling-room c.requires c.loop-number.invariant (line-piece c.args.numbers.now c.loop-number.number-index (omega (arith, c.loop-number-test.true)))

pub loop-number-preserved : goal.loop-number-preserved
loop-number-preserved c = filling-more c.requires c.loop-number.invariant (line-piece c.args.numbers.now c.loop-number.number-index (omega (arith, c.loop-number-test.true))) c.put-at.ensures

pub returns : goal.returns
returns c = filling-all c.loop-number.invariant (line-end c.args.numbers.now c.loop-number.number-index (omega (arith, c.loop-number-test.false)))
