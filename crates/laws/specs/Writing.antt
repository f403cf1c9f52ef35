-- What a function that writes a list into a lent buffer asks and leaves. A buffer is a list; what
-- is written at an index takes the place of as many elements.
use Rattle.std.specs.Prelude.{◌≡◌, cond, List, [], ◌++◌, ℕ, ◌+◌, ◌≤◌, leb, length, drop}
use Rattle.std.proofs.lemmas.List.Edits.{sets}

-- `whole` fills the front, and the rest is as it was
abbrev pub front : {A : Type 0} → List A → List A → List A
front whole out = whole ++ drop (length whole) out

-- out has room for xs from `at` on
pub record Room {A : Type 0} (out : List A) (at : ℕ) (xs : List A) : Type 0 where
  pub fits : at + length xs ≤ length out

-- what a function writes that checks the room itself: xs, if out has room for all of it from `at`
-- on, else nothing
unfoldable pub fitted : {A : Type 0} → List A → List A → ℕ → List A
fitted xs out at = cond (leb (at + length xs) (length out)) xs []

-- xs stands in the buffer from `at` on, the rest is as it was, and r is the index after xs
pub record Wrote {A : Type 0} (out : List A) (at : ℕ) (xs : List A) (r : ℕ) (out' : List A) : Type 0 where
  pub after : r ≡ at + length xs
  pub holds : out' ≡ sets out at xs

-- `whole` fills the front, the rest is as it was, and r is its length
pub record Fronts {A : Type 0} (whole out : List A) (r : ℕ) (out' : List A) : Type 0 where
  pub size : r ≡ length whole
  pub holds : out' ≡ front whole out
