-- `pulphopper::answer::refused` meets its contract: the number and the place that the refusal
-- tells.
use Rattle.pulphopper.proofs.answer.refused.Goals as goal

pub returns : goal.returns
returns c = rw c.tell-told.ensures
