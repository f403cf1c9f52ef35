-- A code in hex. In order: a digit by its value (`digit_low`, `digit-high`); the last four digits
-- (`four_is`), and a code of four, five or six (`hex-four`, `hex-five`, `hex-six`, by cases
-- `by-hex`); how many they are (`four-long`, `hex-long`, `hex-most`); THE DIGITS READ BACK AS THE
-- CODE (`read16`, `hex-reads`), AND BEYOND FOUR THE FIRST IS NO 0 (`hex-fewest`).
use mathlib.Core.Path.{◌≡◌, refl, ◌∙◌, ap}
use mathlib.Core.Bool.{cond}
use mathlib.Core.List.{List, [], ◌∷◌}
use Prim.Native.Nat.{ℕ, ◌+◌, ◌-◌, ◌*◌, ◌/◌, ◌%◌, ◌≤◌, ◌<◌}
use native.Mathlib.Omega.{arith}
use lib.Dec.{ltb}
use lib.ListN.{length, get_or}
use borrow.Author.Tests.{lt-ltb, le-ltb, ltb-true, ltb-false}
use Rattle.laws.proofs.Bools.{test}
use Rattle.listing.specs.Hex.{hex_digit, digit_at, last_four, hex_of}

-- ---- a digit

module _ (d : ℕ) where
  pub digit_low : d < 10 → 0x30 + d ≡ hex_digit d
  unfolding hex_digit
  digit_low h = rw (lt-ltb d 10 h)

  pub digit-high : 10 ≤ d → 0x41 + (d - 10) ≡ hex_digit d
  unfolding hex_digit
  digit-high h = rw (le-ltb d 10 h) (omega arith)

  -- 0 is the only one that 0 stands for
  digit-zero : hex_digit d ≡ 0x30 → d ≡ 0
  digit-zero e =
      test (ltb d 10) (λ t. omega (arith, digit_low (ltb-true d 10 t))) (λ t. omega (arith, digit-high (ltb-false d 10 t), ltb-false d 10 t))

-- ---- a code of four, five or six digits

module _ (c : ℕ) where
  -- the last four, as the code finds them
  pub four_is : {x y z w : ℕ} → x ≡ hex_digit (c / 0x1000 % 16) → y ≡ hex_digit (c / 0x100 % 16) → z ≡ hex_digit (c / 0x10 % 16) → w ≡ hex_digit (c % 16)
      → last_four c ≡ x ∷ y ∷ z ∷ w ∷ []
  unfolding last_four
  four_is p q r s =
      let whole : c / 1 ≡ c = omega arith in
      rw (p, q, r, s, whole)

  pub hex-four : c < 0x10000 → hex_of c ≡ last_four c
  unfolding hex_of
  hex-four h = rw (lt-ltb c 0x10000 h)

  pub hex-five : 0x10000 ≤ c → c < 0x100000 → hex_of c ≡ digit_at 0x10000 c ∷ last_four c
  unfolding hex_of
  hex-five h k = rw (le-ltb c 0x10000 h, lt-ltb c 0x100000 k)

  pub hex-six : 0x100000 ≤ c → hex_of c ≡ digit_at 0x100000 c ∷ digit_at 0x10000 c ∷ last_four c
  unfolding hex_of
  hex-six h =
      let g : 0x10000 ≤ c = omega arith in
      rw (le-ltb c 0x10000 g, le-ltb c 0x100000 h)

  by-hex : {G : Type 0} → (c < 0x10000 → G) → (0x10000 ≤ c → c < 0x100000 → G) → (0x100000 ≤ c → G) → G
  by-hex four five six =
      test (ltb c 0x10000) (λ t. four (ltb-true c 0x10000 t))
      (λ t. test (ltb c 0x100000) (λ u. five (ltb-false c 0x10000 t) (ltb-true c 0x100000 u)) (λ u. six (ltb-false c 0x100000 u)))

  -- ---- how many

  pub four-long : length (last_four c) ≡ 4
  unfolding last_four
  four-long = refl

  pub hex-long : c < 0x10000 → length (hex_of c) ≡ 4
  hex-long h = ap length (hex-four h) ∙ four-long

  hex-longer : 0x10000 ≤ c → c < 0x100000 → length (hex_of c) ≡ 5
  hex-longer h k = omega (arith, ap length (hex-five h k), four-long)

  hex-longest : 0x100000 ≤ c → length (hex_of c) ≡ 6
  hex-longest h = omega (arith, ap length (hex-six h), four-long)

  pub hex-most : length (hex_of c) ≤ 6
  hex-most = by-hex (λ h. omega (arith, hex-long h)) (λ h k. omega (arith, hex-longer h k)) (λ h. omega (arith, hex-longest h))

-- ---- read back

-- what a digit stands for
unfoldable pub digit_value : ℕ → ℕ
digit_value d = cond (ltb d 0x41) (d - 0x30) (d - 0x37)

-- what digits stand for, after others that stand for n
unfoldable pub read_from : ℕ → List ℕ → ℕ
read_from n [] = n
read_from n (d ∷ x) = read_from (n * 16 + digit_value d) x

abbrev pub read16 : List ℕ → ℕ
read16 x = read_from 0 x

digit-reads : (d : ℕ) → d < 16 → digit_value (hex_digit d) ≡ d
unfolding digit_value
digit-reads d h =
    test (ltb d 10)
    (λ t.
    let low = ltb-true d 10 t in
    rw (← (digit_low d low), lt-ltb (0x30 + d) 0x41 (omega arith)) (omega arith))
    (λ t.
    let high = ltb-false d 10 t in
    rw (← (digit-high d high), le-ltb (0x41 + (d - 10)) 0x41 (omega arith)) (omega arith))

module _ (c : ℕ) where
  -- one digit more: n is what those before it stand for, and m what they stand for with it
  next : (unit n m : ℕ) (x : List ℕ) → n * 16 + c / unit % 16 ≡ m → read_from m x ≡ c → read_from n (digit_at unit c ∷ x) ≡ c
  unfolding read_from
  next unit n m x e rest =
      let d : digit_value (digit_at unit c) ≡ c / unit % 16 = digit-reads (c / unit % 16) (omega arith) in
      rw (d, e) rest

  read_whole : read_from c [] ≡ c
  unfolding read_from
  read_whole = refl

  four-reads : {n : ℕ} → n ≡ c / 0x10000 → read_from n (last_four c) ≡ c
  unfolding last_four
  four-reads {n} e =
      next 0x1000 n (c / 0x1000) _ (omega arith)
      (next 0x100 (c / 0x1000) (c / 0x100) _ (omega arith)
      (next 0x10 (c / 0x100) (c / 0x10) _ (omega arith)
      (next 1 (c / 0x10) c _ (omega arith) read_whole)))

  -- THE DIGITS READ BACK AS THE CODE
  pub hex-reads : c < 0x1000000 → read16 (hex_of c) ≡ c
  hex-reads most =
      by-hex c (λ h. rw (hex-four c h) (four-reads (omega arith)))
      (λ h k. rw (hex-five c h k) (next 0x10000 0 (c / 0x10000) _ (omega arith) (four-reads refl)))
      (λ h. rw (hex-six c h) (next 0x100000 0 (c / 0x100000) _ (omega arith) (next 0x10000 (c / 0x100000) (c / 0x10000) _ (omega arith) (four-reads refl))))

  -- BEYOND FOUR DIGITS THE FIRST IS NO 0
  pub hex-fewest : 0x10000 ≤ c → c < 0x1000000 → get_or (hex_of c) 0 0 ≡ 0x30 → ⊥
  hex-fewest least most e =
      by-hex c (λ h. omega arith) (λ h k. omega (arith, digit-zero (c / 0x10000 % 16) (rw (hex-five c h k) at e)))
      (λ h. omega (arith, digit-zero (c / 0x100000 % 16) (rw (hex-six c h) at e)))
