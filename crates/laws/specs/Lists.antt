-- Lists: what each element becomes, one after the other; what holds of every element; the first
-- element that passes a test; how many numbers of a range pass one.
use Rattle.std.specs.Prelude.{Bool, cond, List, [], ◌∷◌, ◌++◌, ℕ, zero, suc}

module _ {A B : Type 0} where
  -- what f makes of each element, in order
  unfoldable pub each : (A → List B) → List A → List B
  each f [] = []
  each f (a ∷ x) = f a ++ each f x

-- P holds of every element
pub data All {A : Type 0} (P : A → Type 0) : List A → Type 0 where
  none : All P []
  also : {a : A} {x : List A} → P a → All P x → All P (a ∷ x)

-- the index of the first element that passes the test, or the length if none does
unfoldable pub first_where : {A : Type 0} → (A → Bool) → List A → ℕ
first_where test [] = 0
first_where test (a ∷ x) = cond (test a) 0 (suc (first_where test x))

-- how many of the n numbers from lo on pass the test
unfoldable pub count : (ℕ → Bool) → ℕ → ℕ → ℕ
count test lo zero = 0
count test lo (suc n) = cond (test lo) (suc (count test (suc lo) n)) (count test (suc lo) n)
