-- `wire::head::head_of` meets its contract.
use Rattle.wire.proofs.Replies.{head-all}
use Rattle.wire.proofs.head.head_of.Goals as goal

pub returns : goal.returns
returns c = head-all _ c.number_at.ensures c.number_at-2.ensures c.number_at-3.ensures c.number_at-4.ensures c.number_at-5.ensures c.number_at-6.ensures c.number_at-7.ensures c.number_at-8.ensures
