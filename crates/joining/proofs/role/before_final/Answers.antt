-- `joining::role::before_final` meets its contract: an LV joins with the final, and nothing else
-- does.
use Rattle.joining.proofs.Pairs.{pair-other, none-nonzero, joins-lvt}
use Rattle.joining.proofs.Roles.{lv-syllable, final-range}
use Rattle.letters.proofs.Steps.{syllable-most}
use native.Mathlib.Omega.{arith}
use mathlib.Core.Path.{sym, ◌∙◌}
use Rattle.joining.proofs.role.before_final.Goals as goal

pub overflow_sub-result : goal.overflow_sub-result
overflow_sub-result c = omega (arith, syllable-most c.args.first (lv-syllable c.args.first (sym c.in-Lv.ensures)), final-range c.args.last c.requires)

pub overflow_add-result : goal.overflow_add-result
overflow_add-result c = omega (arith, syllable-most c.args.first (lv-syllable c.args.first (sym c.in-Lv.ensures)), final-range c.args.last c.requires)

pub returns-in-Lv : goal.returns-in-Lv
returns-in-Lv c = joins-lvt _ _ (sym c.in-Lv.ensures) c.requires

pub returns-in_default : goal.returns-in_default
returns-in_default c = none-nonzero (pair-other _ _ (λ _ e. cc) (λ e _. c.in_default.not-Lv (c.role_of.ensures ∙ e)))
