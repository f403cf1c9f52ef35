-- `answers::check::check_text` meets its contract: the limit, then the first bad code point.
use Rattle.answers.proofs.Checks.{text-over, text-bad, text-taken}
use mathlib.Core.Path.{sym}
use Rattle.answers.proofs.check.check_text.Goals as goal

pub returns-then-text-gt-LIMIT : goal.returns-then-text-gt-LIMIT
returns-then-text-gt-LIMIT c = sym (text-over _ c.if-text-gt-LIMIT.true)

pub returns-then-bad-text : goal.returns-then-bad-text
returns-then-bad-text c = sym (text-bad _ c.if-text-gt-LIMIT.false c.first_bad-bad.ensures c.if-bad-text.true)

pub returns : goal.returns
returns c = sym (text-taken _ c.if-text-gt-LIMIT.false c.first_bad-bad.ensures c.if-bad-text.false)
