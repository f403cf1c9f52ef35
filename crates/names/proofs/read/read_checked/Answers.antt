-- `names::read::read_checked` meets its contract: three indices that are found make the syllable;
-- if there are none, no syllable has the name.
use Rattle.names.proofs.Found.{reads-found, reads_nothing}
use Rattle.names.proofs.read.read_checked.Goals as goal

pub returns-in-Some : goal.returns-in-Some
returns-in-Some c = reads-found c.requires c.in-Some.ensures c.syllable_by.ensures

pub returns-in-None : goal.returns-in-None
returns-in-None c = reads_nothing c.requires c.in-None.ensures
