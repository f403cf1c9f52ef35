-- `answers::check::check_bytes` meets its contract: the limit alone.
use mathlib.Core.Path.{sym}
use Rattle.answers.proofs.Checks.{units-over, units-taken}
use Rattle.answers.proofs.check.check_bytes.Goals as goal

pub returns-then-bytes-gt-LIMIT : goal.returns-then-bytes-gt-LIMIT
returns-then-bytes-gt-LIMIT c = sym (units-over _ c.if-bytes-gt-LIMIT.true)

pub returns : goal.returns
returns c = sym (units-taken _ c.if-bytes-gt-LIMIT.false)
