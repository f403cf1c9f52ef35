use native.Mathlib.Omega.{arith}
use Rattle.mending.proofs.Turns.{tallying-none, tallying-ready, tallying-more, tallying-all}
use Rattle.mending_units.proofs.Bound.{mended-most}
use Rattle.mending_units.proofs.length.mended_count.Goals as goal

pub loop-s-init : goal.loop-s-init
loop-s-init c = tallying-none _

pub count_advance-s-requires : goal.count_advance-s-requires
count_advance-s-requires c = tallying-ready _ c.loop-s.invariant c.requires (omega (arith, mended-most c.args.text.now)) c.loop-s-test.true

pub loop-s-smaller : goal.loop-s-smaller
loop-s-smaller c = omega (arith, c.count_advance-s.ensures.more, c.count_advance-s.ensures.goes.inside)

pub loop-s-preserved : goal.loop-s-preserved
loop-s-preserved c = tallying-more _ c.loop-s.invariant c.count_advance-s.ensures

pub returns : goal.returns
returns c = tallying-all _ c.loop-s.invariant c.loop-s-test.false
