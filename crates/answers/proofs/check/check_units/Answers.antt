-- `answers::check::check_units` meets its contract: the limit alone.
use mathlib.Core.Path.{sym}
use Rattle.answers.proofs.Checks.{units-over, units-taken}
use Rattle.answers.proofs.check.check_units.Goals as goal

pub returns-then-units-gt-LIMIT : goal.returns-then-units-gt-LIMIT
returns-then-units-gt-LIMIT c = sym (units-over _ c.if-units-gt-LIMIT.true)

pub returns : goal.returns
returns c = sym (units-taken _ c.if-units-gt-LIMIT.false)
