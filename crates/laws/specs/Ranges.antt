-- Ranges of numbers, both ends included, and a decision over a list of them: the value of the first
-- range that has the number.
use Rattle.std.specs.Prelude.{Bool, cond, ◌&&◌, List, [], ◌∷◌, ℕ, leb}

-- lo ≤ c ≤ hi
unfoldable pub within : ℕ → ℕ → ℕ → Bool
within lo hi c = leb lo c && leb c hi

-- the numbers from lo to hi have the value v
pub data Range (V' : Type 0) : Type 0 where
  range : ℕ → ℕ → V' → Range V'

-- the value of the first range that has c, else the value `none`
abbrev pub look : {V' : Type 0} → V' → ℕ → List (Range V') → V'
look none c [] = none
look none c (range lo hi v ∷ rs) = cond (within lo hi c) v (look none c rs)
