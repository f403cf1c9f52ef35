-- `ranking::text::check_two` meets its contract: 1 for the first text, 1 for the second, then 2
-- likewise.
use mathlib.Core.Path.{sym}
use Rattle.ranking.proofs.Calls.{two-first-over, two-second-over, two-first-bad, two-second-bad, two-passed}
use Rattle.ranking.proofs.text.check_two.Goals as goal

pub returns-then-first-gt-LIMIT : goal.returns-then-first-gt-LIMIT
returns-then-first-gt-LIMIT c = sym (two-first-over _ _ c.if-first-gt-LIMIT.true)

pub returns-then-second-gt-LIMIT : goal.returns-then-second-gt-LIMIT
returns-then-second-gt-LIMIT c = sym (two-second-over _ _ c.if-first-gt-LIMIT.false c.if-second-gt-LIMIT.true)

pub returns-then-bad-first : goal.returns-then-bad-first
returns-then-bad-first c = sym (two-first-bad _ _ c.if-first-gt-LIMIT.false c.if-second-gt-LIMIT.false c.first_bad-bad.ensures c.if-bad-first.true)

pub returns-then-other-second : goal.returns-then-other-second
returns-then-other-second c = sym
    (two-second-bad _ _ c.if-first-gt-LIMIT.false c.if-second-gt-LIMIT.false
    c.first_bad-bad.ensures c.if-bad-first.false c.first_bad-other.ensures c.if-other-second.true)

pub returns : goal.returns
returns c = sym
    (two-passed _ _ c.if-first-gt-LIMIT.false c.if-second-gt-LIMIT.false
    c.first_bad-bad.ensures c.if-bad-first.false c.first_bad-other.ensures c.if-other-second.false)
