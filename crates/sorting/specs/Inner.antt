-- What the helpers that put a record in its place ask and promise.
use Rattle.std.specs.Prelude.{◌≡◌, List, ◌∷◌, ◌++◌, ℕ, suc, ◌-◌, ◌≤◌, ◌<◌, length, get_or, take, drop}
use Rattle.std.specs.declared.cmp.Ordering.TheVariants.{Less}
use Rattle.sorting.specs.Sorting.{standing}

-- k was put at an index among the first n numbers, and those from there on have moved up by one
pub record Inserted (numbers : List ℕ) (n at k : ℕ) (numbers' : List ℕ) : Type 0 where
  pub holds : numbers' ≡ take at numbers ++ (k ∷ (take (n - at) (drop at numbers) ++ drop (suc n) numbers))

-- the place of k among sorted numbers: all before it stand before k, and none from there on does
pub record PlaceFound (image numbers : List ℕ) (k at : ℕ) : Type 0 where
  pub inside : at ≤ length numbers
  pub below : (i : ℕ) → i < at → standing image (get_or numbers i 0) k ≡ Less
  pub above : (i : ℕ) → at ≤ i → i < length numbers → standing image (get_or numbers i 0) k ≡ Less → ⊥
