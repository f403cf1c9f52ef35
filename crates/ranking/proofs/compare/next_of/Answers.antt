-- `ranking::compare::next_of` meets its contract: no elements are the end; else the code point is a
-- digit or it is not.
use native.Mathlib.Omega.{arith}
use Rattle.ranking.proofs.Texts.{next-end, next-digit, next-below, next-above}
use Rattle.ranking.proofs.compare.next_of.Goals as goal

pub returns-then-size-eq0 : goal.returns-then-size-eq0
returns-then-size-eq0 c = next-end _ _ c.if-size-eq0.true

pub returns-in-48-to-57 : goal.returns-in-48-to-57
returns-in-48-to-57 c = next-digit _ _ c.if-size-eq0.false (omega arith) (omega arith)

pub returns-in_default : goal.returns-in_default
returns-in_default c = next-below _ _ c.if-size-eq0.false (omega arith)

pub returns-in_default-2 : goal.returns-in_default-2
returns-in_default-2 c = next-above _ _ c.if-size-eq0.false (omega arith)
