-- `clusters::gather::three_of` meets its contract: a second or third letter 0 is in no cluster;
-- else the search finds the cluster.
use mathlib.Core.List.{[], ◌∷◌}
use Rattle.clusters.proofs.Clustering.{second-zero, third-zero, three-found}
use Rattle.clusters.proofs.gather.three_of.Goals as goal

pub returns-then-second-eq0 : goal.returns-then-second-eq0
returns-then-second-eq0 c = second-zero _ _ _ c.if-second-eq0.true

pub returns-then-third-eq0 : goal.returns-then-third-eq0
returns-then-third-eq0 c = third-zero _ _ _ c.if-third-eq0.true

pub returns : goal.returns
returns c = let two = c.narrowed.ensures (_ ∷ []) c.of.ensures in
    three-found c.if-second-eq0.false c.if-third-eq0.false
    (c.narrowed-2.ensures (_ ∷ _ ∷ []) two) c.row_in.ensures
