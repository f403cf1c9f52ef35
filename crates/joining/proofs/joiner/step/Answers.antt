-- `joining::joiner::step` meets its contract: what is open and the code point join, or they do not.
use Rattle.joining.proofs.Joiners.{stepped-apart, stepped-joined}
use Rattle.joining.proofs.joiner.step.Goals as goal

pub returns-in-Some : goal.returns-in-Some
returns-in-Some c = stepped-joined _ _ c.in-Some.ensures c.opened-made.ensures c.united.ensures

pub returns-in-None : goal.returns-in-None
returns-in-None c = stepped-apart _ _ c.in-None.ensures c.opened-next.ensures c.parted.ensures
