-- `wire::reply::counted` meets its contract.
use Rattle.wire.proofs.reply.counted.Goals as goal

pub returns : goal.returns
returns c = rw (c.shortened.ensures, c.shortened-2.ensures) at c.done.ensures
