use native.Mathlib.Omega.{arith}
use Rattle.encodings.proofs.Taking.{test-true}
use Rattle.mending_units.specs.Inner.{nothing}
use Rattle.mending_units.proofs.Passes.{trails-more}
use Rattle.mending_units.proofs.unchanged.singles.Goals as goal

pub loop-at-init : goal.loop-at-init
loop-at-init c = nothing c.requires

pub loop-at-preserved : goal.loop-at-preserved
loop-at-preserved c = trails-more c.loop-at.invariant (omega arith) (omega (arith, c.type_inv.text c.loop-at.at)) (test-true c.is_quiet.ensures c.if-not-is_quiet.false)
