-- `sorting::insert::insert` meets its contract: those from the place on are copied one on, and the
-- number is stored.
use Rattle.sorting.proofs.Placing.{inserted}
use Rattle.sorting.proofs.insert.insert.Goals as goal

pub returns : goal.returns
returns c = rw c.copy_within.ensures.after (inserted c.args.number c.requires.at_le_count c.requires.count_in_bounds)
