-- `pulphopper::calls::pulphopper_read_name` meets its contract: what reading a name answers, in the
-- three numbers of an answer.
use Rattle.pulphopper.proofs.Replies.{reads-done, reads-refused}
use Rattle.pulphopper.proofs.calls.pulphopper_read_name.Goals as goal

pub returns-in-Ok : goal.returns-in-Ok
returns-in-Ok c = reads-done _ c.read_name.ensures c.in-Ok.is

pub returns-in-Err : goal.returns-in-Err
returns-in-Err c = reads-refused _ c.read_name.ensures c.in-Err.is c.refused.ensures
