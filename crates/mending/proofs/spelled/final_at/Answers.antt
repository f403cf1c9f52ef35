-- `mending::spelled::final_at` meets its contract: the tails of the finals are two ranges, and any
-- other tail is that of none.
use Rattle.std.proofs.lemmas.Option.{MatchOption-at_none}
use Rattle.mending.proofs.Spelling.{final-low, final-high, final-none}
use native.Mathlib.Omega.{arith}
use Rattle.mending.proofs.spelled.final_at.Goals as goal

pub returns-in-Some-34472-to-34495 : goal.returns-in-Some-34472-to-34495
returns-in-Some-34472-to-34495 c = final-low _ _ c.in-Some-34472-to-34495.ensures (omega arith) (omega arith)

pub returns-in-Some-34688-to-34690 : goal.returns-in-Some-34688-to-34690
returns-in-Some-34688-to-34690 c = final-high _ _ c.in-Some-34688-to-34690.ensures (omega arith) (omega arith)

pub returns-in_default : goal.returns-in_default
returns-in_default c = final-none _ _ c.in_default.ensures (λ l m. omega (arith, l, m)) (λ l m. omega (arith, l, m))

pub returns-in_default-2 : goal.returns-in_default-2
returns-in_default-2 c = final-none _ _ c.in_default.ensures (λ l m. omega (arith, l, m)) (λ l m. omega (arith, l, m))

pub returns-in_default-3 : goal.returns-in_default-3
returns-in_default-3 c = final-none _ _ c.in_default.ensures (λ l m. omega (arith, l, m)) (λ l m. omega (arith, l, m))

pub returns-in_default-4 : goal.returns-in_default-4
returns-in_default-4 c = final-none _ _ (MatchOption-at_none _ _ c.in_default.is c.tail_at.ensures)
    (λ l m. omega (arith, l)) (λ l m. omega (arith, l))
