-- `ranking::compare::State::step` meets its contract: each return knows the state.
use mathlib.Core.Path.{refl}
use Rattle.ranking.proofs.Steps.{moves_from, done-stays}
use Rattle.ranking.proofs.compare.State.step.Goals as goal

pub returns-in-Apart : goal.returns-in-Apart
returns-in-Apart c = moves_from c.in-Apart.is refl c.apart.ensures

pub returns-in-Zeros : goal.returns-in-Zeros
returns-in-Zeros c = moves_from c.in-Zeros.is refl c.zeros.ensures

pub returns-in-Number : goal.returns-in-Number
returns-in-Number c = moves_from c.in-Number.is refl c.number.ensures

pub returns-in-Done : goal.returns-in-Done
returns-in-Done c = moves_from c.in-Done.is c.done.ensures (done-stays _ _ _ refl)
