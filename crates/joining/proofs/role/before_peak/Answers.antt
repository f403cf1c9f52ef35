-- `joining::role::before_peak` meets its contract: a modern initial joins with the peak, and
-- nothing else does.
use Rattle.joining.proofs.Pairs.{pair-other, none-nonzero, joins-lv}
use Rattle.joining.proofs.Roles.{initial-range, peak-range}
use native.Mathlib.Omega.{arith}
use mathlib.Core.Path.{sym, ◌∙◌}
use Rattle.joining.proofs.role.before_peak.Goals as goal

pub overflow_sub-result : goal.overflow_sub-result
overflow_sub-result c = omega (arith, initial-range c.args.first (sym c.in-Initial.ensures), peak-range c.args.peak c.requires)

pub overflow_mul-result : goal.overflow_mul-result
overflow_mul-result c = omega (arith, initial-range c.args.first (sym c.in-Initial.ensures), peak-range c.args.peak c.requires)

pub overflow_add-result : goal.overflow_add-result
overflow_add-result c = omega (arith, initial-range c.args.first (sym c.in-Initial.ensures), peak-range c.args.peak c.requires)

pub overflow_sub-result-in-Initial : goal.overflow_sub-result-in-Initial
overflow_sub-result-in-Initial c = omega (arith, initial-range c.args.first (sym c.in-Initial.ensures), peak-range c.args.peak c.requires)

pub overflow_mul-result-in-Initial : goal.overflow_mul-result-in-Initial
overflow_mul-result-in-Initial c = omega (arith, initial-range c.args.first (sym c.in-Initial.ensures), peak-range c.args.peak c.requires)

pub overflow_add-result-in-Initial : goal.overflow_add-result-in-Initial
overflow_add-result-in-Initial c = omega (arith, initial-range c.args.first (sym c.in-Initial.ensures), peak-range c.args.peak c.requires)

pub returns-in-Initial : goal.returns-in-Initial
returns-in-Initial c = joins-lv _ _ (sym c.in-Initial.ensures) c.requires

pub returns-in_default : goal.returns-in_default
returns-in_default c = none-nonzero (pair-other _ _ (λ e _. c.in_default.not-Initial (c.role_of.ensures ∙ e)) (λ _ e. cc))
