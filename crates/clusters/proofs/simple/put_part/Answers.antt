-- `clusters::simple::put_part` meets its contract: the letters of the row that was read are those
-- of the part.
use Rattle.clusters.proofs.Rows.{room-read, wrote-read}
use Rattle.clusters.proofs.simple.put_part.Goals as goal

pub put_row-requires : goal.put_row-requires
put_row-requires c = room-read _ c.row_at.ensures c.requires

pub returns : goal.returns
returns c = wrote-read _ c.row_at.ensures c.put_row.ensures
