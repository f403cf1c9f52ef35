use mathlib.Core.Path.{sym, ◌∙◌}
use lib.ListN.{get_or-replicate}
use Rattle.wire.proofs.Filling.{overwriting-next}
use Rattle.wire.proofs.lent.fill.Goals as goal

pub loop-element-preserved : goal.loop-element-preserved
loop-element-preserved g c =
    overwriting-next c.FILL.result c.loop-element.invariant c.loop-element-test.true (c.FILL.ensures ∙ sym (get_or-replicate _ _ _ _ c.loop-element-test.true))
