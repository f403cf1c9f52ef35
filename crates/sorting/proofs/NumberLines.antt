-- The lines of numbers: a number's digits and a line feed.
--
-- In order: a line in two pieces (`line-pieces`); how long it is (`line-length`, `line-long`,
-- `line-most`, `u32-line`); the line at a loop's index (`line-piece`, `line-end`).
use mathlib.Core.Path.{◌≡◌, refl, ◌∙◌, ap}
use mathlib.Core.List.{List, [], ◌∷◌}
use Prim.Native.Nat.{ℕ, suc, ◌+◌, ◌^◌, ◌≤◌, ◌<◌}
use native.Mathlib.Omega.{arith}
use lib.ListN.{length, get_or, drop, length-append}
use Rattle.laws.specs.Lists.{each}
use Rattle.laws.proofs.Lists.{each-end}
use Rattle.laws.proofs.Filling.{Piece, each-piece}
use Rattle.sorting.specs.Decimals.{decimal_of}
use Rattle.sorting.specs.Printing.{number_line}
use Rattle.sorting.proofs.Decimals.{decimal-size, decimal-most}

pub line-pieces : (k : ℕ) → Piece (number_line k) (decimal_of k) (0x0A ∷ [])
unfolding number_line
line-pieces k = record { eq = refl }

-- ---- how long a line is

pub line-length : (k : ℕ) → length (number_line k) ≡ length (decimal_of k) + 1
line-length k = ap length (line-pieces k).eq ∙ length-append (decimal_of k) (0x0A ∷ [])

pub line-long : (n k : ℕ) → 10 ^ n ≤ k → k < 10 ^ suc n → length (number_line k) ≡ n + 2
line-long n k h g = omega (arith, line-length k, decimal-size n k h g)

pub line-most : (n k : ℕ) → k < 10 ^ suc n → length (number_line k) ≤ n + 2
line-most n k h = omega (arith, line-length k, decimal-most n k h)

-- a u32 has at most 10 digits
pub u32-line : {k n : ℕ} → n ≡ length (number_line k) → k < 2 ^ 32 → n ≤ 11
u32-line {k} e h = omega (arith, line-most 9 k (omega arith))

-- ---- at a loop's index

module _ (numbers : List ℕ) (i : ℕ) where
  pub line-piece : i < length numbers
      → Piece (each number_line (drop i numbers)) (number_line (get_or numbers i 0)) (each number_line (drop (i + 1) numbers))
  line-piece h = each-piece number_line 0 numbers i h

  pub line-end : length numbers ≤ i → each number_line (drop i numbers) ≡ []
  line-end h = each-end number_line numbers i h
