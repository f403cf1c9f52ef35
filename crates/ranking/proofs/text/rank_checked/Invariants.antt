-- `ranking::text::rank_checked` meets its contract: the loop's invariant: what is left ranks as the
-- two texts do. The measure is what is left of them, and 1 while the answer is to be found.
use Rattle.ranking.specs.Inner.{joined_from, Follows}
use Rattle.ranking.proofs.Texts.{measure_of, start}
use Rattle.ranking.proofs.text.rank_checked.Given as goal

abbrev pub invariant-loop-s : goal.invariant-loop-s
invariant-loop-s l = Follows joined_from l.first l.second start l.s

abbrev pub decreases-loop-s : goal.decreases-loop-s
decreases-loop-s l = measure_of l.first l.second l.s
