-- `ranking::compare::others` meets its contract: of two code points that are no digits the lesser
-- stands first, and two equal ones pass.
use Rattle.ranking.proofs.Steps.{others-before, others-equal, others-after}
use Rattle.ranking.proofs.compare.others.Goals as goal

pub returns-in-Less : goal.returns-in-Less
returns-in-Less c = others-before _ _ c.compared-order.ensures c.in-Less.is c.done.ensures

pub returns-in-Equal : goal.returns-in-Equal
returns-in-Equal c = others-equal _ _ c.compared-order.ensures c.in-Equal.is c.both.ensures

pub returns-in-Greater : goal.returns-in-Greater
returns-in-Greater c = others-after _ _ c.compared-order.ensures c.in-Greater.is c.done-in-Greater.ensures
