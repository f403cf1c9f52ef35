use native.Mathlib.Omega.{arith}
use Rattle.sorting.proofs.Placing.{between-all, between_none, halved-right, halved-left}
use Rattle.sorting.proofs.records.place_of.Goals as goal

pub loop-low-init : goal.loop-low-init
loop-low-init c = between-all _ _ _

pub loop-low-preserved-then-comes_before : goal.loop-low-preserved-then-comes_before
loop-low-preserved-then-comes_before c = halved-right c.loop-low.invariant c.requires (omega arith) (omega arith) c.comes_before.ensures c.if-comes_before.true

pub loop-low-preserved : goal.loop-low-preserved
loop-low-preserved c = halved-left c.loop-low.invariant c.requires (omega arith) (omega arith) c.comes_before.ensures c.if-comes_before.false

pub returns : goal.returns
returns c = between_none c.loop-low.invariant (omega arith)
