-- `joining::joiner::put` meets its contract: none, one or two are to be written, and there is room
-- for them or not.
use Rattle.joining.specs.Answers.{emitted}
use Rattle.laws.proofs.Filling.{wrote_one, wrote-pair, wrote-empty, wrote-fitted, wrote-unfitted}
use native.Mathlib.Omega.{arith}
use mathlib.Core.Path.{ap}
use Rattle.joining.proofs.joiner.put.Goals as goal

pub returns-then-out-at : goal.returns-then-out-at
returns-then-out-at c = wrote-unfitted (ap emitted c.in-One.is) (omega (arith, c.if-out-at.true))

pub returns-then-out-at-2 : goal.returns-then-out-at-2
returns-then-out-at-2 c = wrote-unfitted (ap emitted c.in-Two.is) (omega (arith, c.if-out-at-2.true))

pub returns-then-out-at-lt2 : goal.returns-then-out-at-lt2
returns-then-out-at-lt2 c = wrote-unfitted (ap emitted c.in-Two.is) (omega (arith, c.if-out-at-lt2.true))

pub returns-in-Empty : goal.returns-in-Empty
returns-in-Empty c = wrote-empty (ap emitted c.in-Empty.is)

pub returns-else-out-at : goal.returns-else-out-at
returns-else-out-at c = let one = ap emitted c.in-One.is in wrote-fitted one (omega arith) (wrote_one one)

pub returns-else-out-at-lt2 : goal.returns-else-out-at-lt2
returns-else-out-at-lt2 c = let two = ap emitted c.in-Two.is in wrote-fitted two (omega (arith, c.if-out-at-lt2.false)) (wrote-pair two)
