-- Checks in order. In order: a check passes or refuses, never both (`passes-refuses`); where all
-- pass, the first passes and so do the others (`order-first`, `order-rest`); a check by a test
-- (`passes-true`, `passes-false`); checks and then more (`order-refused`, `order-passed`,
-- `order-one`, `order-flat`).
use mathlib.Core.Path.{◌≡◌, refl, sym}
use mathlib.Core.Bool.{Bool, true, false, cond}
use mathlib.Core.List.{List, [], ◌∷◌, ◌++◌}
use Prim.Native.Nat.{ℕ}
use native.Mathlib.Omega.{arith}
use Rattle.answers.specs.Checks.{Check, passes, refuses, in_order}

-- a check passes or refuses, never both
pub passes-refuses : {number place : ℕ} → passes ≡ refuses number place → ⊥
passes-refuses e = let z : ◌≡◌ {A = ℕ} 0 1 = cc in omega arith

-- where all checks pass, the first passes, and so do the others
pub order-first : (check : Check) (rest : List Check) → in_order (check ∷ rest) ≡ passes → check ≡ passes
order-first passes rest e = refl
order-first (refuses number place) rest e = e

pub order-rest : (check : Check) (rest : List Check) → in_order (check ∷ rest) ≡ passes → in_order rest ≡ passes
order-rest passes rest e = e
order-rest (refuses number place) rest e = absurd (passes-refuses (sym e))

-- a check by a test: where it passes, the test says so
pub passes-true : (t : Bool) (number place : ℕ) → cond t passes (refuses number place) ≡ passes → t ≡ true
passes-true true number place e = refl
passes-true false number place e = absurd (passes-refuses (sym e))

pub passes-false : (t : Bool) (number place : ℕ) → cond t (refuses number place) passes ≡ passes → t ≡ false
passes-false true number place e = absurd (passes-refuses (sym e))
passes-false false number place e = refl

-- checks and then more checks: a refusal of the first ones counts, and where they pass the others
-- count
pub order-refused : (x y : List Check) {number place : ℕ} → in_order x ≡ refuses number place → in_order (x ++ y) ≡ refuses number place
order-refused [] y e = absurd (passes-refuses e)
order-refused (passes ∷ x) y e = order-refused x y e
order-refused (refuses n p ∷ x) y e = e

pub order-passed : (x y : List Check) → in_order x ≡ passes → in_order (x ++ y) ≡ in_order y
order-passed [] y e = refl
order-passed (passes ∷ x) y e = order-passed x y e
order-passed (refuses n p ∷ x) y e = absurd (passes-refuses (sym e))

-- one check alone
pub order-one : (check : Check) → in_order (check ∷ []) ≡ check
order-one passes = refl
order-one (refuses number place) = refl

-- checks in order that stand first among others are these checks, and then the others
pub order-flat : (x y : List Check) → in_order (in_order x ∷ y) ≡ in_order (x ++ y)
order-flat [] y = refl
order-flat (passes ∷ x) y = order-flat x y
order-flat (refuses number place ∷ x) y = refl
