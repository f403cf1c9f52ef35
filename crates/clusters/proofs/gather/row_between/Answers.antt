use Rattle.clusters.specs.Inner.{hit}
use Rattle.clusters.proofs.Clustering.{same-row, searched-miss}
use mathlib.Core.Path.{sym, ◌∙◌}
use Rattle.clusters.proofs.gather.row_between.Goals as goal

pub returns-then-eq : goal.returns-then-eq
returns-then-eq c = hit (sym c.row_at.ensures ∙ same-row _ _ (sym c.eq.ensures ∙ c.if-eq.true))

pub returns : goal.returns
returns c = searched-miss _ _ _ c.loop-code-test.false c.loop-code.invariant
