-- `clusters::simple::put_row` meets its contract: one letter, or two, or three, by which of the
-- row's numbers are 0.
use Rattle.laws.proofs.Filling.{wrote-three}
use Rattle.clusters.proofs.Rows.{by_three}
use Rattle.clusters.proofs.simple.put_row.Goals as goal

pub returns : goal.returns
returns c = wrote-three (by_three c.args.row c.if-row-eq0.false c.if-row-eq0-2.false)
