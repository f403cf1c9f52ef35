-- Numbers in bytes, high byte first: what is written is read again, and what is read is written
-- again.
--
-- In order: a number in n bytes is n bytes long (`high-length`), each is below 256 (`high-bytes`),
-- and what does not fit is left out (`high-more`); n bytes are a number below 256 to the power of n
-- (`number-below`); THE ROUND TRIPS (`number-high`, `high-number`); four bytes and two bytes as the
-- code has them (`four_bytes`, `two_bytes`, `number-four`, `number-two`).
use mathlib.Core.Path.{◌≡◌, refl, sym, ◌∙◌, ap}
use mathlib.Core.List.{List, [], ◌∷◌}
use Prim.Native.Nat.{ℕ, zero, suc, ◌+◌, ◌*◌, ◌/◌, ◌%◌, ◌^◌, ◌<◌}
use native.Mathlib.Nat.{pow-suc, mod-lt, mod-eq_of_lt, div-add-mod', div-eq_of_lt, div-one, mul-add-div_right, mul-add-mod_self_right, div-lt_iff_lt-mul, mul_assoc, mul_comm, mul-le-mul_right, suc-mul, add-zero, one-le-pow}
use native.Mathlib.Omega.{arith}
use lib.ListN.{length}
use Rattle.std.specs.Int.{w16, w32, from_be_bytes, to_be_bytes}
use Rattle.laws.specs.Lists.{All, none, also}
use Rattle.labels.specs.Records.{high_first, number_of}

-- a power of 256 is not 0, so it may be divided by
power-some : (n : ℕ) → 0 < 256 ^ n
power-some n = one-le-pow n 256 (omega arith)

-- a number in n bytes is n bytes long
pub high-length : (n v : ℕ) → length (high_first n v) ≡ n
unfolding high_first
high-length zero v = refl
high-length (suc n) v = ap suc (high-length n v)

-- and each of them is a byte
pub high-bytes : (n v : ℕ) → All (λ b. b < 256) (high_first n v)
unfolding high_first
high-bytes zero v = none
high-bytes (suc n) v = also (mod-lt (v / 256 ^ n) (omega arith)) (high-bytes n v)

-- what is above n bytes is left out
high-more : (n q m : ℕ) → high_first n (q * 256 ^ n + m) ≡ high_first n m
unfolding high_first
high-more zero q m = refl
high-more (suc n) q m =
    let e : q * 256 ^ suc n ≡ q * 256 * 256 ^ n = rw (pow-suc 256 n, mul_comm (256 ^ n) 256, ← mul_assoc q 256 (256 ^ n)) in
    rw (e, mul-add-div_right (power-some n) (q * 256) m, mul-add-mod_self_right q 256 (m / 256 ^ n), high-more n (q * 256) m)

-- n bytes are a number below 256 to the power of n
pub number-below : {x : List ℕ} → All (λ b. b < 256) x → number_of x < 256 ^ length x
unfolding number_of
number-below none = omega arith
number-below (also {a = b} {x = x} h p) = below b (256 ^ length x) (number_of x) (pow-suc 256 (length x)) h (number-below p)
  where
    below : (b w m : ℕ) {v : ℕ} → v ≡ w * 256 → b < 256 → m < w → b * w + m < v
    below b w m e h k = omega (arith, mul-le-mul_right w h, suc-mul b w)

-- THE ROUND TRIPS: a number that n bytes can hold is read again as it was written
pub number-high : (n v : ℕ) → v < 256 ^ n → number_of (high_first n v) ≡ v
unfolding high_first number_of
number-high zero v h = omega arith
number-high (suc n) v h =
    let top : v / 256 ^ n < 256 = (div-lt_iff_lt-mul (power-some n)).1 (rw (pow-suc 256 n, mul_comm (256 ^ n) 256) at h) in
    let low : high_first n v ≡ high_first n (v % 256 ^ n) =
    ap (high_first n) (sym (div-add-mod' v (256 ^ n))) ∙ high-more n (v / 256 ^ n) (v % 256 ^ n) in
    rw (mod-eq_of_lt top, high-length n v, low, number-high n (v % 256 ^ n) (mod-lt v (power-some n))) (div-add-mod' v (256 ^ n))

-- and bytes are written again as they were read
pub high-number : {x : List ℕ} → All (λ b. b < 256) x → high_first (length x) (number_of x) ≡ x
unfolding high_first number_of
high-number none = refl
high-number (also {a = b} {x = x} h p) =
    rw (mul-add-div_right (power-some (length x)) b (number_of x), div-eq_of_lt (number-below p), add-zero, mod-eq_of_lt h)
    (rw (high-more (length x) b (number_of x), high-number p))

-- ---- four bytes and two, as the code has them

-- the bytes of a number of four bytes, and of two
pub four_bytes : (v : ℕ) → high_first 4 v ≡ to_be_bytes w32 v
unfolding high_first
four_bytes v = rw (div-one v)

pub two_bytes : (v : ℕ) → high_first 2 v ≡ to_be_bytes w16 v
unfolding high_first
two_bytes v = rw (div-one v)

-- the number of four bytes, and of two
pub number-four : (a b c d : ℕ) → from_be_bytes w32 (a ∷ b ∷ c ∷ d ∷ []) ≡ number_of (a ∷ b ∷ c ∷ d ∷ [])
unfolding number_of
number-four a b c d = omega arith

pub number-two : (a b : ℕ) → from_be_bytes w16 (a ∷ b ∷ []) ≡ number_of (a ∷ b ∷ [])
unfolding number_of
number-two a b = omega arith
