-- `ranking::text::rank` meets its contract: the checks refuse, or the two texts are ranked.
use mathlib.Core.Path.{sym}
use Rattle.ranking.proofs.Calls.{two-short}
use Rattle.ranking.proofs.text.rank.Goals as goal

pub rank_checked-requires : goal.rank_checked-requires
rank_checked-requires c = two-short _ _ (sym c.in_ok-check_two.ensures)
