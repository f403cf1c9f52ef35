-- A code in capital hex of four to six digits: document 01, 'Programs', the lister.
use Rattle.std.specs.Prelude.{cond, List, [], ◌∷◌, ℕ, ◌+◌, ◌/◌, ◌%◌, ltb}

-- a digit: 0 to 9, then A to F
unfoldable pub hex_digit : ℕ → ℕ
hex_digit d = cond (ltb d 10) (0x30 + d) (0x37 + d)

-- the digit of c for a unit, a power of 16
abbrev pub digit_at : ℕ → ℕ → ℕ
digit_at unit c = hex_digit (c / unit % 16)

-- the last four digits
unfoldable pub last_four : ℕ → List ℕ
last_four c = digit_at 0x1000 c ∷ digit_at 0x100 c ∷ digit_at 0x10 c ∷ digit_at 1 c ∷ []

-- a code in hex: four digits, and up to two more if they are needed
unfoldable pub hex_of : ℕ → List ℕ
hex_of c =
    cond (ltb c 0x10000) (last_four c)
    (cond (ltb c 0x100000) (digit_at 0x10000 c ∷ last_four c) (digit_at 0x100000 c ∷ digit_at 0x10000 c ∷ last_four c))
