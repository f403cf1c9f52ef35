-- `ranking::compare::ended` meets its contract: two numbers of one length have ended: by what they
-- decided, or by what follows.
use Rattle.ranking.proofs.Steps.{ended-before, ended-equal, ended-after}
use Rattle.ranking.proofs.compare.ended.Goals as goal

pub returns-in-Less : goal.returns-in-Less
returns-in-Less c = ended-before c.requires.closed c.requires.closed_2 c.in-Less.is c.done.ensures

pub returns-in-Equal : goal.returns-in-Equal
returns-in-Equal c = ended-equal c.requires.closed c.requires.closed_2 c.in-Equal.is c.apart.ensures

pub returns-in-Greater : goal.returns-in-Greater
returns-in-Greater c = ended-after c.requires.closed c.requires.closed_2 c.in-Greater.is c.done-in-Greater.ensures
