-- `ranking::compare::At::advance` meets its contract: what a step says of two fronts, it says of the
-- texts in which they stand.
use Rattle.ranking.proofs.Texts.{first-adds, second-adds, advances}
use native.Mathlib.Omega.{arith}
use Rattle.ranking.proofs.compare.At.advance.Goals as goal

pub overflow_add-result : goal.overflow_add-result
overflow_add-result c = omega (arith, first-adds c.requires c.step-taken.ensures c.passing.ensures)

pub overflow_add-result-2 : goal.overflow_add-result-2
overflow_add-result-2 c = omega (arith, second-adds c.requires c.step-taken.ensures c.passing-2.ensures)

pub returns : goal.returns
returns c = advances _ _ _ _ c.step-taken.ensures c.passing.ensures
    c.passing-2.ensures
