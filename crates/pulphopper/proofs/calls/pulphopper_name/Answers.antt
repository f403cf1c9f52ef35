-- `pulphopper::calls::pulphopper_name` meets its contract: what naming answers, in the three
-- numbers of an answer.
use Rattle.pulphopper.proofs.Replies.{names-done, names-refused}
use Rattle.pulphopper.proofs.calls.pulphopper_name.Goals as goal

pub returns-in-Ok : goal.returns-in-Ok
returns-in-Ok c = names-done _ _ c.name.ensures c.in-Ok.is

pub returns-in-Err : goal.returns-in-Err
returns-in-Err c = names-refused _ _ c.name.ensures c.in-Err.is c.refused.ensures
