use Rattle.laws.proofs.Filling.{filling-length}
use native.Mathlib.Omega.{arith}
use Rattle.mending.proofs.Turns.{writing-none, writing-ready, writing_more, writing-all}
use Rattle.mending_units.proofs.text.mend_into.Goals as goal

pub loop-s-init : goal.loop-s-init
loop-s-init c = writing-none _

pub advance-s-requires : goal.advance-s-requires
advance-s-requires c = writing-ready _ c.loop-s.invariant c.requires.text_len_bound
    c.requires.text_in_bounds c.loop-s-test.true

pub loop-s-smaller : goal.loop-s-smaller
loop-s-smaller c = omega (arith, c.advance-s.ensures.more, c.advance-s.ensures.goes.inside)

pub loop-s-preserved : goal.loop-s-preserved
loop-s-preserved c = writing_more _ c.loop-s.invariant
    c.requires.text_in_bounds c.advance-s.ensures

pub shape_of-out : goal.shape_of-out
shape_of-out c = filling-length c.requires.text_in_bounds c.loop-s.invariant.filling

pub returns : goal.returns
returns c = writing-all _ c.loop-s.invariant c.loop-s-test.false
