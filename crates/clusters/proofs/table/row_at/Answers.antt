-- `clusters::table::row_at` meets its contract: the number of the code's row, unpacked, or the code
-- alone where there is none.
use Rattle.clusters.proofs.Rows.{row_read, row-alone}
use Rattle.clusters.proofs.table.row_at.Goals as goal

pub returns-in-Some : goal.returns-in-Some
returns-in-Some c = row_read c.in-Some.ensures c.letter.ensures c.letter-in-Some.ensures

pub returns-in-None : goal.returns-in-None
returns-in-None c = row-alone c.in-None.ensures
