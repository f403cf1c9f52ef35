-- A number of any size in decimal digits of ASCII, with none needless: that they read back as the
-- number, and that the first of several is not 0, is shown in proofs/Decimals.
use Rattle.std.specs.Prelude.{cond, List, [], ◌∷◌, ◌++◌, ℕ, zero, suc, ◌+◌, ◌/◌, ◌%◌, ltb}

abbrev pub decimal_digit : ℕ → ℕ
decimal_digit d = 0x30 + d % 10

-- the digits of k, found with at most n divisions: one digit, or those of a tenth and then the last
unfoldable pub digits_within : ℕ → ℕ → List ℕ
digits_within zero k = decimal_digit k ∷ []
digits_within (suc n) k = cond (ltb k 10) (decimal_digit k ∷ []) (digits_within n (k / 10) ++ (decimal_digit k ∷ []))

-- THE DIGITS of k: k divisions are always enough
unfoldable pub decimal_of : ℕ → List ℕ
decimal_of k = digits_within k k
