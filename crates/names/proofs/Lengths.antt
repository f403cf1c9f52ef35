-- How long a name is. In order: a list of strings by one computed test; an initial's and a final's
-- string has at most 2 bytes, a peak's 1 to 3; so a name has 17 to 23 bytes, by I, P and F
-- (`name-least`, `name-most`) and of a syllable (`syllable-name-least`, `syllable-name-most`). The
-- upper bound asks nothing of the indices, since the string is empty after a list's last row.
use mathlib.Core.Path.{◌≡◌, ap}
use mathlib.Core.Bool.{Bool, true}
use mathlib.Core.List.{List, []}
use Prim.Native.Nat.{ℕ, ◌≤◌, ◌<◌}
use native.Mathlib.Omega.{arith}
use lib.Dec.{T, leb, ltb, leb→le}
use lib.ListN.{length, get_or, get_or-eq_default}
use borrow.Author.Tests.{ltb-true, ltb-false}
use Rattle.laws.proofs.Bools.{test}
use Rattle.laws.proofs.Tables.{every, every-at}
use Rattle.letters.specs.Syllables.{is_syllable, initial_of, peak_of, final_of}
use Rattle.letters.proofs.Steps.{syllable-least, syllable-most, peak-below}
use Rattle.names.specs.Names.{initials, peaks, finals, name_by, name_of}
use Rattle.names.proofs.Writing.{name-size}

-- ---- a list of strings by one test

abbrev at_least : ℕ → ℕ → List ℕ → Bool
at_least n row string = leb n (length string)

abbrev at_most : ℕ → ℕ → List ℕ → Bool
at_most n row string = leb (length string) n

module _ (n : ℕ) (strings : List (List ℕ)) (row : ℕ) where
  long : T (every (at_least n) 0 strings) → row < length strings → n ≤ length (get_or strings row [])
  long t h = leb→le _ _ (every-at (at_least n) [] strings t row h)

  -- after the last row the string is empty
  short : T (every (at_most n) 0 strings) → length (get_or strings row []) ≤ n
  short t =
      test (ltb row (length strings)) (λ h. leb→le _ _ (every-at (at_most n) [] strings t row (ltb-true _ _ h)))
      (λ h. omega (arith, ap length (get_or-eq_default strings [] (ltb-false row (length strings) h))))

-- ---- the three lists

pub initial-most : (i : ℕ) → length (get_or initials i []) ≤ 2
unfolding initials
initial-most i = short 2 initials i tt

pub peak-least : (p : ℕ) → p < 21 → 1 ≤ length (get_or peaks p [])
unfolding peaks
peak-least p h = long 1 peaks p tt h

pub peak-most : (p : ℕ) → length (get_or peaks p []) ≤ 3
unfolding peaks
peak-most p = short 3 peaks p tt

pub final-most : (f : ℕ) → length (get_or finals f []) ≤ 2
unfolding finals
final-most f = short 2 finals f tt

-- ---- the names

module _ (i p f : ℕ) where
  pub name-least : p < 21 → 17 ≤ length (name_by i p f)
  name-least h = omega (arith, name-size i p f, peak-least p h)

  pub name-most : length (name_by i p f) ≤ 23
  name-most = omega (arith, name-size i p f, initial-most i, peak-most p, final-most f)

module _ (s : ℕ) where
  pub syllable-name-least : is_syllable s ≡ true → 17 ≤ length (name_of s)
  syllable-name-least h = name-least (initial_of s) (peak_of s) (final_of s) (peak-below s (syllable-least s h) (syllable-most s h))

  pub syllable-name-most : length (name_of s) ≤ 23
  syllable-name-most = name-most (initial_of s) (peak_of s) (final_of s)
