use native.Mathlib.Omega.{arith}
use Rattle.mending.proofs.Turns.{passes_none, passes_on}
use Rattle.mending.proofs.unchanged.passing.Goals as goal

pub loop-at-init : goal.loop-at-init
loop-at-init c = passes_none _ _ c.requires

pub returns-then-end-at : goal.returns-then-end-at
returns-then-end-at c = c.loop-at.invariant

pub returns-then-byte_at-ge128 : goal.returns-then-byte_at-ge128
returns-then-byte_at-ge128 c = passes_on c.loop-at.invariant c.run-end.ensures

pub loop-at-smaller : goal.loop-at-smaller
loop-at-smaller c = omega (
  arith,
  c.run-end.ensures.goes.on,
  c.if-end-at.false,
  c.loop-at-test.true,
)

pub loop-at-preserved : goal.loop-at-preserved
loop-at-preserved c = passes_on c.loop-at.invariant c.run-end.ensures

pub returns : goal.returns
returns c = c.loop-at.invariant
