-- `ranking::compare::zeros` meets its contract: a zero in front passes; with none left the two are
-- numbers.
use mathlib.Core.Path.{sym, ◌∙◌}
use Rattle.ranking.proofs.Steps.{steps-first-zero, steps-second-zero, steps-stout}
use Rattle.ranking.proofs.compare.zeros.Goals as goal

pub returns-then-is_zero : goal.returns-then-is_zero
returns-then-is_zero c = steps-first-zero _ _ (sym c.is_zero.ensures ∙ c.if-is_zero.true) c.zero.ensures

pub returns-then-is_zero-2 : goal.returns-then-is_zero-2
returns-then-is_zero-2 c = steps-second-zero _ _ (sym c.is_zero-2.ensures ∙ c.if-is_zero-2.true) c.zero-then-is_zero-2.ensures

pub returns : goal.returns
returns c = steps-stout _ _ (sym c.is_zero.ensures ∙ c.if-is_zero.false)
    (sym c.is_zero-2.ensures ∙ c.if-is_zero-2.false) c.number.ensures
