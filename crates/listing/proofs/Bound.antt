-- How long a list is: at most ten bytes for each byte of the text (`listed-most`), since a syllable
-- has three bytes of its own, and its line at most 29 (`line-bytes`).
use mathlib.Core.List.{List}
use Prim.Native.Nat.{ℕ, ◌*◌, ◌≤◌}
use native.Mathlib.Omega.{arith}
use lib.ListN.{length}
use Rattle.laws.proofs.Bools.{test}
use Rattle.letters.specs.Syllables.{is_syllable}
use Rattle.letters.proofs.Steps.{syllable-least, syllable-most, syllable-above}
use Rattle.utf8.specs.Utf8.{bytes_of}
use Rattle.utf8.proofs.Writing.{long-three, bytes-least}
use Rattle.utf8.proofs.Round.{encodes8}
use Rattle.mending.proofs.Bound.{each-most, bounded8}
use Rattle.listing.specs.Line.{line_of}
use Rattle.listing.specs.Listing.{listed}
use Rattle.listing.proofs.LineBound.{line-named, line-few}

line-bytes : (c : ℕ) → length (line_of c) ≤ 10 * length (bytes_of c)
line-bytes c =
    test (is_syllable c)
    (λ s. omega (arith, line-named c s, long-three c (omega (arith, syllable-least c s)) (omega (arith, syllable-most c s))))
    (λ s. omega (arith, line-few c s, bytes-least c))

-- A LIST HAS AT MOST TEN TIMES AS MANY BYTES AS THE TEXT
pub listed-most : (t : List ℕ) → length (listed t) ≤ 10 * length t
unfolding listed
listed-most t =
    each-most encodes8 line_of 10
    (bounded8 line_of 10 (λ c g. line-bytes c) (omega (arith, line-few 0xFFFD (syllable-above 0xFFFD (omega arith))))) t
