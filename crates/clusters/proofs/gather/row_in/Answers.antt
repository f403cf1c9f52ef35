-- `clusters::gather::row_in` meets its contract: found in the first part of the span, or else in
-- the second, or in neither.
use Rattle.clusters.proofs.Clustering.{found-either}
use borrow.Author.Rules.{rules}
use Rattle.clusters.proofs.gather.row_in.Goals as goal

pub returns : goal.returns
returns c = found-either {row = c.args.row} {span = c.args.span} {r = c.or_else.result} c.row_between.ensures (search rules)
