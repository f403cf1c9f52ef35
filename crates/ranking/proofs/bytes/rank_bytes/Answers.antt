-- `ranking::bytes::rank_bytes` meets its contract: the check refuses, or the two texts are ranked.
use mathlib.Core.Path.{sym}
use Rattle.ranking.proofs.Calls.{two-bytes-short}
use Rattle.ranking.proofs.bytes.rank_bytes.Goals as goal

pub rank_checked-requires : goal.rank_checked-requires
rank_checked-requires c = two-bytes-short _ _ (sym c.in_ok-check_two.ensures)
