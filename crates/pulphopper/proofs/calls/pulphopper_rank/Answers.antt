-- `pulphopper::calls::pulphopper_rank` meets its contract: what ranking answers, in the three
-- numbers of an answer.
use Rattle.pulphopper.proofs.Replies.{ranks-done, ranks-refused}
use Rattle.pulphopper.proofs.calls.pulphopper_rank.Goals as goal

pub returns-in-Ok : goal.returns-in-Ok
returns-in-Ok c = ranks-done _ _ c.rank_bytes.ensures c.in-Ok.is c.number_of.ensures

pub returns-in-Err : goal.returns-in-Err
returns-in-Err c = ranks-refused _ _ c.rank_bytes.ensures c.in-Err.is c.refused.ensures
