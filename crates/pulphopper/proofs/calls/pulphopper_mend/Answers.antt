-- `pulphopper::calls::pulphopper_mend` meets its contract: what mending answers, in the three
-- numbers of an answer.
use Rattle.utf8.proofs.Round.{encodes8}
use Rattle.pulphopper.proofs.Replies.{mends-done, mends-few, mends-refused}
use Rattle.pulphopper.proofs.calls.pulphopper_mend.Goals as goal

pub counted-requires : goal.counted-requires
counted-requires c = mends-few _ _ c.mend.ensures encodes8 c.in-Ok.is

pub returns-in-Ok : goal.returns-in-Ok
returns-in-Ok c = mends-done _ _ c.mend.ensures c.in-Ok.is c.counted.ensures

pub returns-in-Err : goal.returns-in-Err
returns-in-Err c = mends-refused _ _ c.mend.ensures c.in-Err.is c.refused.ensures
