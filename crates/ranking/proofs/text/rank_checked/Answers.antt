use native.Mathlib.Omega.{arith}
use Rattle.ranking.proofs.Texts.{follows-none, follows_on, follows-reached, less, rank-found}
use Rattle.ranking.proofs.text.rank_checked.Goals as goal

pub loop-s-init : goal.loop-s-init
loop-s-init c = follows-none (omega arith) (omega arith)

pub advance-s-requires : goal.advance-s-requires
advance-s-requires c = follows-reached c.loop-s.invariant c.requires.first_len_bound
    c.requires.second_len_bound

pub loop-s-smaller : goal.loop-s-smaller
loop-s-smaller c = less c.goes_on.ensures c.loop-s-test.true c.advance-s.ensures

pub loop-s-preserved : goal.loop-s-preserved
loop-s-preserved c = follows_on c.loop-s.invariant c.advance-s.ensures.follows

pub returns : goal.returns
returns c = rank-found c.loop-s.invariant c.goes_on.ensures c.loop-s-test.false c.settled.ensures
