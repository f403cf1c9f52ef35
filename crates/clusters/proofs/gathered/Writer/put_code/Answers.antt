-- `clusters::gathered::Writer::put_code` meets its contract: a step of the joiner is written.
use Rattle.clusters.proofs.Writing.{room-code, joined-code}
use Rattle.laws.proofs.Filling.{wrote-all}
use Rattle.clusters.proofs.gathered.Writer.put_code.Goals as goal

pub returns : goal.returns
returns c = let step = c.step-step.ensures in
    joined-code c.args.self _ step (wrote-all (room-code c.args.self _ step c.requires) c.put.ensures)
