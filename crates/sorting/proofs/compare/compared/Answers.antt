-- `sorting::compare::compared` meets its contract. The three comparisons are those of the
-- definition, in its order.
use Rattle.sorting.specs.Sorting.{standing}
use Rattle.sorting.proofs.compare.compared.Goals as goal

pub returns : goal.returns
unfolding standing
returns c = rw (
  c.followed-2.ensures,
  c.followed.ensures,
  c.by_label-label.ensures,
  c.compared-berth.ensures,
  c.compared-number.ensures,
  c.berth_at.ensures,
  c.berth_at-2.ensures,
)
