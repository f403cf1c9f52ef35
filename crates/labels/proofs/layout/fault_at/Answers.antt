-- `labels::layout::fault_at` meets its contract: the part of the image that is lent on is the
-- record.
use Rattle.labels.proofs.Images.{fault-is}
use Rattle.labels.proofs.layout.fault_at.Goals as goal

pub returns : goal.returns
returns c = fault-is _ c.args.number _ c.fault.ensures
