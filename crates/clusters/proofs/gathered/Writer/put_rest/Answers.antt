-- `clusters::gathered::Writer::put_rest` meets its contract: what the gatherer holds goes through the
-- joiner, and then what the joiner holds.
use Rattle.clusters.proofs.Writing.{room-last, wrote-rest}
use Rattle.laws.proofs.Filling.{wrote-all}
use Rattle.clusters.proofs.gathered.Writer.put_rest.Goals as goal

pub returns : goal.returns
returns c = let writer = c.args.self in
    let last = c.flush-2.ensures in
    let flushed = c.flush.ensures in
    let joined = c.put_codes-next.ensures in
    wrote-rest writer flushed joined last (wrote-all (room-last writer flushed joined last c.requires) c.put.ensures)
