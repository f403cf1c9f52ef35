-- Laws of tests. In order: a goal by cases on a test with its equation in hand (`test`), a test as
-- a type (`T_true`, `true-T`); what `a && b` and `a || b` say of a and of b.
use mathlib.Core.Path.{◌≡◌, refl, sym, ◌∙◌}
use mathlib.Core.Bool.{Bool, true, false, ◌&&◌, ◌||◌, false≢true}
use mathlib.Core.Logic.{◌⊎◌, inl, inr}
use lib.Dec.{T}

-- by cases on b: `test b (λ q. ..) (λ q. ..)`
pub test : {G : Type 0} (b : Bool) → (b ≡ true → G) → (b ≡ false → G) → G
test true yea nay = yea refl
test false yea nay = nay refl

pub T_true : (b : Bool) → T b → b ≡ true
T_true true t = refl
T_true false t = absurd t

pub true-T : (b : Bool) → b ≡ true → T b
true-T true e = tt
true-T false e = absurd (false≢true e)

-- ---- a conjunction

pub and_left : (a b : Bool) → a && b ≡ true → a ≡ true
and_left true b e = refl
and_left false b e = e

pub and_right : (a b : Bool) → a && b ≡ true → b ≡ true
and_right true b e = e
and_right false b e = absurd (false≢true e)

pub and-not-right : (a b : Bool) → b ≡ false → a && b ≡ false
and-not-right true b e = e
and-not-right false b e = refl

pub and_cases : (a b : Bool) → a && b ≡ false → (a ≡ false) ⊎ (b ≡ false)
and_cases true b e = inr e
and_cases false b e = inl refl

pub and-T-left : (a b : Bool) → T (a && b) → T a
and-T-left true b t = tt
and-T-left false b t = t

pub and-T-right : (a b : Bool) → T (a && b) → T b
and-T-right true b t = t
and-T-right false b t = absurd t

-- ---- a disjunction

pub or_left : (a b : Bool) → a || b ≡ false → a ≡ false
or_left true b e = e
or_left false b e = refl

pub or_right : (a b : Bool) → a || b ≡ false → b ≡ false
or_right true b e = absurd (false≢true (sym e))
or_right false b e = e

-- one side is true, and it is not b
pub or-only : (a b : Bool) → a || b ≡ true → b ≡ false → a ≡ true
or-only true b e q = refl
or-only false b e q = sym q ∙ e
