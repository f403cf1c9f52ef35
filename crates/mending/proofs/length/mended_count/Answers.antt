use native.Mathlib.Omega.{arith}
use Rattle.mending.proofs.Turns.{tallying-none, tallying-ready, tallying-more, tallying-all}
use Rattle.mending.proofs.Bound.{mended-most}
use Rattle.mending.proofs.length.mended_count.Goals as goal

pub loop-s-init : goal.loop-s-init
loop-s-init c = tallying-none _

pub advance-s-requires : goal.advance-s-requires
advance-s-requires c = tallying-ready _ c.loop-s.invariant c.requires (mended-most _) c.loop-s-test.true

pub loop-s-smaller : goal.loop-s-smaller
loop-s-smaller c = omega (arith, c.advance-s.ensures.more, c.advance-s.ensures.goes.inside)

pub loop-s-preserved : goal.loop-s-preserved
loop-s-preserved c = tallying-more _ c.loop-s.invariant c.advance-s.ensures

pub returns : goal.returns
returns c = tallying-all _ c.loop-s.invariant c.loop-s-test.false
