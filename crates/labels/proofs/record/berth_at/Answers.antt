-- `labels::record::berth_at` meets its contract: no such record, or what its entry says.
use native.Mathlib.Omega.{arith}
use Rattle.labels.proofs.Lookups.{berth-none, berth-entry}
use Rattle.labels.proofs.record.berth_at.Goals as goal

pub returns-then-image-number : goal.returns-then-image-number
returns-then-image-number c = berth-none _ _ c.if-image-number.true

pub entry_at-entry-requires : goal.entry_at-entry-requires
entry_at-entry-requires c = omega (arith, c.if-image-number.false)

pub returns : goal.returns
returns c = berth-entry _ _ c.if-image-number.false c.entry_at-entry.ensures
