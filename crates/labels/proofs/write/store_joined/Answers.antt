-- `labels::write::store_joined` meets its contract: mending into 88 bytes is refused if there are
-- more; else what it filled is stored.
use Rattle.labels.proofs.Storing.{joined-refused, joined-count, joined-fits, joined-most, joined-done}
use borrow.Author.Rules.{rules}
use Rattle.labels.proofs.write.store_joined.Goals as goal

pub slice_bounds-joined-end : goal.slice_bounds-joined-end
slice_bounds-joined-end c = joined-fits _ _ c.requires.label_value
    c.mend.ensures c.in-Ok.is

pub slice_bounds-put_at-end : goal.slice_bounds-put_at-end
slice_bounds-put_at-end c = joined-count _ _ c.requires.label_value
    c.mend.ensures c.in-Ok.is

pub put_at-requires : goal.put_at-requires
put_at-requires c = record { number_in_bounds = c.requires.number_in_bounds; label_len_bound = joined-most _ _ c.requires.label_value c.mend.ensures c.in-Ok.is (search rules) }

pub returns-in-Err : goal.returns-in-Err
returns-in-Err c = joined-refused _ _ c.requires.label_value c.mend.ensures _ _ _ _
    (search rules) c.in-Err.is

pub returns-in-Ok : goal.returns-in-Ok
returns-in-Ok c = joined-done _ _ c.requires.label_value c.mend.ensures c.in-Ok.is _ _ _ _ (search rules)
    c.put_at.ensures
