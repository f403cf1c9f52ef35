-- `joining::role::joined` meets its contract: only a peak and a final join with what stands before
-- them.
use Rattle.joining.proofs.Pairs.{pair-before, none-nonzero}
use mathlib.Core.Path.{◌∙◌}
use Rattle.joining.proofs.role.joined.Goals as goal

pub returns-in_default : goal.returns-in_default
returns-in_default c =
    none-nonzero (pair-before _ _ (λ e. c.in_default.not-Peak (c.role_of.ensures ∙ e)) (λ e. c.in_default.not-Final (c.role_of.ensures ∙ e)))
