-- `labels::record::entry_at` meets its contract: the part of the image that is lent on is the
-- record.
use native.Mathlib.Omega.{arith}
use Rattle.labels.proofs.Lookups.{entry-part}
use Rattle.labels.proofs.record.entry_at.Goals as goal

pub returns : goal.returns
returns c = entry-part _ _ (omega (arith, c.requires)) c.entry_of.ensures
