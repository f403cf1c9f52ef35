use native.Mathlib.Omega.{arith}
use Rattle.encodings.proofs.Ills.{ill-next, ill-here, ill-end}
use Rattle.encodings.proofs.Taking.{taken_next}
use Rattle.utf8.specs.Utf8.{form8}
use borrow.Author.Rules.{rules}
use Rattle.utf8.proofs.decode.first_ill.Goals as goal

pub loop-at-init : goal.loop-at-init
loop-at-init c = (search rules, omega arith)

pub returns-then-taken-ne0 : goal.returns-then-taken-ne0
returns-then-taken-ne0 c = ill-here form8 _ _ _ c.read_at-taken.ensures c.if-taken-ne0.true c.loop-at.invariant.1

pub overflow_add-at : goal.overflow_add-at
overflow_add-at c = omega (
  arith,
  (taken_next form8 _ _ c.loop-at-test.true c.read_at-taken.ensures).inside,
)

pub loop-at-smaller : goal.loop-at-smaller
loop-at-smaller c = omega (
  arith,
  (taken_next form8 _ _ c.loop-at-test.true c.read_at-taken.ensures).inside,
  (taken_next form8 _ _ c.loop-at-test.true c.read_at-taken.ensures).more,
  c.loop-at-test.true,
)

pub loop-at-preserved : goal.loop-at-preserved
loop-at-preserved c = (
  (taken_next form8 _ _ c.loop-at-test.true c.read_at-taken.ensures).inside,
  ill-next form8 _ _ _ c.read_at-taken.ensures c.loop-at-test.true c.if-taken-ne0.false
      c.loop-at.invariant.1,
)

pub returns : goal.returns
returns c = ill-end form8 _ _ _ c.loop-at-test.false c.loop-at.invariant.1
