use mathlib.Core.Path.{sym, ◌∙◌}
use Rattle.wire.proofs.Filling.{overwriting-none, overwriting-next, overwriting-all}
use Rattle.wire.proofs.Elements.{length-elements, elements-at}
use Rattle.wire.proofs.element.read.Goals as goal

pub loop-i-init : goal.loop-i-init
loop-i-init g c = overwriting-none _ _ (length-elements _ _ _ _)

pub loop-i-preserved : goal.loop-i-preserved
loop-i-preserved g c = overwriting-next c.at.result c.loop-i.invariant c.loop-i-test.true (c.at.ensures ∙ sym (elements-at _ _ _ _ _ _ c.loop-i-test.true))

pub returns : goal.returns
returns g c = overwriting-all c.loop-i.invariant c.loop-i-test.false
