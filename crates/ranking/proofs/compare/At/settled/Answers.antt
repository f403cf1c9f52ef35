-- `ranking::compare::At::settled` meets its contract: each return knows the state, and two labels that
-- end here have no items left.
use mathlib.Core.Path.{sym, ◌∙◌, ap}
use mathlib.Core.List.{[]}
use Rattle.ranking.specs.Inner.{rank_from}
use Rattle.ranking.proofs.Steps.{settled-apart, settled-zeros, settled-number}
use Rattle.ranking.proofs.compare.At.settled.Goals as goal

pub returns-in-Apart : goal.returns-in-Apart
returns-in-Apart c = settled-apart ∙ sym (ap (λ s. rank_from s [] []) c.in-Apart.is)

pub returns-in-Zeros : goal.returns-in-Zeros
returns-in-Zeros c = settled-zeros ∙ sym (ap (λ s. rank_from s [] []) c.in-Zeros.is)

pub returns-in-Number : goal.returns-in-Number
returns-in-Number c = settled-number _ ∙ sym (ap (λ s. rank_from s [] []) c.in-Number.is)

pub returns-in-Done : goal.returns-in-Done
returns-in-Done c = sym (ap (λ s. rank_from s [] []) c.in-Done.is)
