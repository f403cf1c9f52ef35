-- `clusters::gather::row_between` meets its contract. The loop's invariant: no code before this one
-- has the row.
use Rattle.clusters.proofs.Clustering.{Missed}
use Rattle.clusters.proofs.gather.row_between.Given as goal

abbrev pub invariant-loop-code : goal.invariant-loop-code
invariant-loop-code l = Missed l.row l.low l.code
