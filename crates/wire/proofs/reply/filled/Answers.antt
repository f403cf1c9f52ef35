-- `wire::reply::filled` meets its contract.
use mathlib.Core.Path.{sym, ap, ◌∙◌}
use Rattle.wire.specs.Messages.{short, filled_reply}
use Rattle.wire.proofs.reply.filled.Goals as goal

pub returns-in-Ok : goal.returns-in-Ok
unfolding short
returns-in-Ok c = c.counted.ensures ∙ sym (ap filled_reply c.in-Ok.is)

pub returns-in-Err : goal.returns-in-Err
returns-in-Err c = c.refused.ensures ∙ sym (ap filled_reply c.in-Err.is)
