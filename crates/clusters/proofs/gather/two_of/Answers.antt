-- `clusters::gather::two_of` meets its contract: a second letter 0 is in no cluster; else the
-- search finds the cluster.
use mathlib.Core.List.{[], ◌∷◌}
use Rattle.clusters.proofs.Clustering.{two-zero, two-found}
use Rattle.clusters.proofs.gather.two_of.Goals as goal

pub returns-then-second-eq0 : goal.returns-then-second-eq0
returns-then-second-eq0 c = two-zero _ _ c.if-second-eq0.true

pub returns : goal.returns
returns c = two-found c.if-second-eq0.false (c.narrowed.ensures (_ ∷ []) c.of.ensures) c.row_in.ensures
