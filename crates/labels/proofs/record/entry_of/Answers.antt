-- `labels::record::entry_of` meets its contract: the object, the berth and the length, each from
-- its own bytes.
use Rattle.labels.proofs.Entries.{entry_read}
use Rattle.labels.proofs.record.entry_of.Goals as goal

pub returns : goal.returns
returns c = entry_read _ c.requires c.from_be_bytes.ensures c.from_be_bytes-2.ensures
