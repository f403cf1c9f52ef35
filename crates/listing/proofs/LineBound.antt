-- How long a line is: at most 29 bytes (`line-most`) if the character has a name (`line-named`),
-- and at most 9 if it has none (`line-few`).
use mathlib.Core.Path.{◌≡◌, ap}
use mathlib.Core.Bool.{true, false}
use Prim.Native.Nat.{ℕ, ◌+◌, ◌≤◌}
use native.Mathlib.Omega.{arith}
use lib.ListN.{length, length-append}
use Rattle.laws.proofs.Bools.{test}
use Rattle.letters.specs.Syllables.{is_syllable}
use Rattle.letters.proofs.Steps.{syllable-most}
use Rattle.names.proofs.Lengths.{syllable-name-most}
use Rattle.listing.specs.Hex.{hex_of}
use Rattle.listing.proofs.Digits.{hex-long, hex-most}
use Rattle.listing.specs.Line.{name_or_none, line_of}
use Rattle.listing.proofs.LineWriting.{name-yes, name-none}

module _ (c : ℕ) where
  -- with the space and the line feed
  line-size : length (line_of c) ≡ length (hex_of c) + length (name_or_none c) + 2
  unfolding line_of
  line-size = simp length-append (omega arith)

  -- four digits and a name
  pub line-named : is_syllable c ≡ true → length (line_of c) ≤ 29
  line-named s =
      omega (arith, line-size, hex-long c (omega (arith, syllable-most c s)), ap length (name-yes c s), syllable-name-most c)

  -- six digits and -
  pub line-few : is_syllable c ≡ false → length (line_of c) ≤ 9
  line-few s = omega (arith, line-size, hex-most c, ap length (name-none c s))

  pub line-most : length (line_of c) ≤ 29
  line-most = test (is_syllable c) (λ s. line-named s) (λ s. omega (arith, line-few s))
