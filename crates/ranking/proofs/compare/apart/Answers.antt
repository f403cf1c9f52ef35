-- `ranking::compare::apart` meets its contract: the end before all, a number before a code point,
-- and two of a kind by their own functions.
use mathlib.Core.Path.{refl}
use Rattle.ranking.proofs.Steps.{moves, apart-ends, apart-digit-end, apart-digit-other}
use Rattle.ranking.proofs.Fronts.{end-first, other_last}
use Rattle.ranking.proofs.compare.apart.Goals as goal

pub returns-in-End-second : goal.returns-in-End-second
returns-in-End-second c = moves c.in-End.is c.in-End-second.is c.done.ensures apart-ends

pub returns-in_default : goal.returns-in_default
returns-in_default c = moves c.in-End.is refl c.done-in_default.ensures (end-first c.args.second c.in_default.not-End)

pub returns-in-End-second-2 : goal.returns-in-End-second-2
returns-in-End-second-2 c = moves c.in-Digit.is c.in-End-second-2.is c.done-in-End-second-2.ensures (apart-digit-end _)

pub returns-in-Digit-second : goal.returns-in-Digit-second
returns-in-Digit-second c = moves c.in-Digit.is c.in-Digit-second.is refl c.digits.ensures

pub returns-in-Other-second : goal.returns-in-Other-second
returns-in-Other-second c = moves c.in-Digit.is c.in-Other-second.is c.done-in-Other-second.ensures (apart-digit-other _ _)

pub returns-in-Other-second-2 : goal.returns-in-Other-second-2
returns-in-Other-second-2 c = moves c.in-Other.is c.in-Other-second-2.is refl c.others.ensures

pub returns-in_default-second : goal.returns-in_default-second
returns-in_default-second c = moves c.in-Other.is refl c.done-in_default-second.ensures (other_last _ c.args.second c.in_default-second.not-Other)
