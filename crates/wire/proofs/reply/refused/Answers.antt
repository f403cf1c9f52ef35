-- `wire::reply::refused` meets its contract.
use Rattle.wire.proofs.Replies.{refused_all}
use Rattle.wire.proofs.reply.refused.Goals as goal

pub returns : goal.returns
returns c = refused_all c.args.refusal _ c.tell-told.ensures c.shortened.ensures
