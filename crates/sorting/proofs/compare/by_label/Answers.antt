-- `sorting::compare::by_label` meets its contract: no label is over the limit, so ranking refuses
-- none.
use Rattle.sorting.proofs.Standing.{labels-rank, labels-refused}
use Rattle.sorting.proofs.compare.by_label.Goals as goal

pub returns-in-Ok : goal.returns-in-Ok
returns-in-Ok c = labels-rank _ _ _ c.label_at.ensures c.label_at-2.ensures
    c.rank_bytes-ranked.ensures c.in-Ok.is

pub returns-in-Err : goal.returns-in-Err
returns-in-Err c = absurd (labels-refused _ _ _ c.label_at.ensures c.label_at-2.ensures
    c.rank_bytes-ranked.ensures c.in-Err.is)
