-- Laws of writing UTF-8: a code point's bytes in their four cases, and how many they are.
--
-- It has: `bytes_of` by the bounds of the code point (`bytes_one` .. `bytes-four`); its length
-- (`long-one` .. `long-four`, `bytes-least`), by a view of the four cases (`Width`);
-- those of U+FFFD (`mark-bytes`); and a text's bytes (`write-most`, `write-least`).
use mathlib.Core.Path.{◌≡◌, refl, sym, ap}
use mathlib.Core.Bool.{Bool, true, false}
use mathlib.Core.List.{List, [], ◌∷◌}
use Prim.Native.Nat.{ℕ, ◌+◌, ◌*◌, ◌/◌, ◌%◌, ◌≤◌, ◌<◌}
use native.Mathlib.Omega.{arith}
use lib.ListN.{length}
use lib.Dec.{ltb}
use borrow.Author.Tests.{lt-ltb, le-ltb, ltb-true, ltb-false}
use Rattle.laws.proofs.Lists.{length-each-least, length-each-most}
use Rattle.utf8.specs.Utf8.{bytes_of, write_text}
use Rattle.utf8.specs.Most.{bytes_most}

-- ---- a code point's bytes, by its bounds

module _ (c : ℕ) where
  pub bytes_one : c < 0x80 → bytes_of c ≡ c ∷ []
  unfolding bytes_of
  bytes_one h = rw (lt-ltb c 0x80 h)

  pub bytes-two : 0x80 ≤ c → c < 0x800 → bytes_of c ≡ (0xC0 + c / 64) ∷ (0x80 + c % 64) ∷ []
  unfolding bytes_of
  bytes-two h k = rw (le-ltb c 0x80 h, lt-ltb c 0x800 k)

  pub bytes-three : 0x800 ≤ c → c < 0x10000 → bytes_of c ≡ (0xE0 + c / 4096) ∷ (0x80 + c / 64 % 64) ∷ (0x80 + c % 64) ∷ []
  unfolding bytes_of
  bytes-three h k =
      let g : 0x80 ≤ c = omega arith in
      rw (le-ltb c 0x80 g, le-ltb c 0x800 h, lt-ltb c 0x10000 k)

  pub bytes-four : 0x10000 ≤ c → bytes_of c ≡ (0xF0 + c / 262144) ∷ (0x80 + c / 4096 % 64) ∷ (0x80 + c / 64 % 64) ∷ (0x80 + c % 64) ∷ []
  unfolding bytes_of
  bytes-four h =
      let g : 0x80 ≤ c = omega arith in
      let f : 0x800 ≤ c = omega arith in
      rw (le-ltb c 0x80 g, le-ltb c 0x800 f, le-ltb c 0x10000 h)

  -- ---- how many they are, as the code counts them

  pub long-one : c < 0x80 → 1 ≡ length (bytes_of c)
  long-one h = sym (ap length (bytes_one h))

  pub long-two : 0x80 ≤ c → c < 0x800 → 2 ≡ length (bytes_of c)
  long-two h k = sym (ap length (bytes-two h k))

  pub long-three : 0x800 ≤ c → c < 0x10000 → 3 ≡ length (bytes_of c)
  long-three h k = sym (ap length (bytes-three h k))

  pub long-four : 0x10000 ≤ c → 4 ≡ length (bytes_of c)
  long-four h = sym (ap length (bytes-four h))

-- a code point is of one of the four cases
pub data Width (c : ℕ) : Type 0 where
  one : c < 0x80 → Width c
  two : 0x80 ≤ c → c < 0x800 → Width c
  three : 0x800 ≤ c → c < 0x10000 → Width c
  four : 0x10000 ≤ c → Width c

pub width : (c : ℕ) → Width c
width c = by (ltb c 0x80) (ltb c 0x800) (ltb c 0x10000) refl refl refl
  where
    by : (p q r : Bool) → ltb c 0x80 ≡ p → ltb c 0x800 ≡ q → ltb c 0x10000 ≡ r → Width c
    by true q r e f g = one (ltb-true c 0x80 e)
    by false true r e f g = two (ltb-false c 0x80 e) (ltb-true c 0x800 f)
    by false false true e f g = three (ltb-false c 0x800 f) (ltb-true c 0x10000 g)
    by false false false e f g = four (ltb-false c 0x10000 g)

pub bytes-least : (c : ℕ) → 1 ≤ length (bytes_of c)
bytes-least c = by (width c)
  where
    by : Width c → 1 ≤ length (bytes_of c)
    by (one h) = rw (bytes_one c h) (omega arith)
    by (two h k) = rw (bytes-two c h k) (omega arith)
    by (three h k) = rw (bytes-three c h k) (omega arith)
    by (four h) = rw (bytes-four c h) (omega arith)

-- the bytes of U+FFFD
pub mark-bytes : bytes_of 0xFFFD ≡ 0xEF ∷ 0xBF ∷ 0xBD ∷ []
mark-bytes = bytes-three 0xFFFD (omega arith) (omega arith)

-- ---- a text's bytes

-- at least n, at most 4n
pub write-least : (x : List ℕ) → length x ≤ length (write_text x)
write-least x = length-each-least bytes_of bytes-least x

pub write-most : (x : List ℕ) → length (write_text x) ≤ 4 * length x
write-most x = length-each-most bytes_of 4 bytes_most x
