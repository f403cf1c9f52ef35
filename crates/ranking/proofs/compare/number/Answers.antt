-- `ranking::compare::number` meets its contract: two digits pass; where one number has ended and
-- the other has not, the longer is the greater.
use mathlib.Core.Path.{refl}
use Rattle.ranking.proofs.Steps.{moves, number_more, number-longer, number-shorter}
use Rattle.ranking.proofs.Fronts.{closed-tags}
use Rattle.ranking.proofs.compare.number.Goals as goal

pub ended-requires : goal.ended-requires
ended-requires c = record { closed = closed-tags c.args.first c.in_default.not-Digit; closed_2 = closed-tags c.args.second c.in_default-second-2.not-Digit }

pub returns-in-Digit-second : goal.returns-in-Digit-second
returns-in-Digit-second c = moves c.in-Digit.is c.in-Digit-second.is refl
    (number_more _ _ _ c.compared.ensures c.followed.ensures c.both.ensures)

pub returns-in_default-second : goal.returns-in_default-second
returns-in_default-second c = moves c.in-Digit.is refl c.done.ensures
    (number-longer _ _ _ (closed-tags c.args.second c.in_default-second.not-Digit))

pub returns-in-Digit-second-2 : goal.returns-in-Digit-second-2
returns-in-Digit-second-2 c = moves refl c.in-Digit-second-2.is c.done-in-Digit-second-2.ensures
    (number-shorter _ _ _ (closed-tags c.args.first c.in_default.not-Digit))

pub returns-in_default-second-2 : goal.returns-in_default-second-2
returns-in_default-second-2 c = c.ended.ensures
