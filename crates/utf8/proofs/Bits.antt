-- What the functions of a row know at their returns. In order: the bounds of the second byte are
-- those of a continuation byte (`second-least`, `second-some`, `second-most`); the bits that the
-- bytes of a row carry are the value (`two-bits`, `three-bits`, `four-bits`). Sequences that are
-- begun, and how they end, stand in crate encodings, proofs/Taking.
use mathlib.Core.Path.{◌≡◌}
use mathlib.Core.Bool.{true}
use mathlib.Core.Option.{some}
use mathlib.Core.List.{List, [], ◌∷◌}
use Prim.Native.Nat.{ℕ, ◌+◌, ◌-◌, ◌*◌, ◌%◌, ◌≤◌}
use native.Mathlib.Omega.{arith}
use Rattle.laws.specs.Ranges.{within}
use Rattle.laws.proofs.Ranges.{within-least, within-most}
use Rattle.encodings.specs.Rows.{Units, ◌to◌}
use Rattle.utf8.specs.Table37.{continuation}
use Rattle.utf8.specs.Utf8.{value_of}
use Rattle.utf8.specs.Inner.{Begins}
use Rattle.utf8.proofs.Rows.{row-least, row-most}

-- ---- the second byte

module _ {text : List ℕ} {at a low high : ℕ} {row : List Units} {lo hi : ℕ} (b : Begins text at a (some ((low to high) ∷ row)) lo hi) where
  pub second-least : 0x80 ≤ low
  second-least = row-least a b.picks

  -- so no sequence goes on with 0
  pub second-some : 1 ≤ low
  second-some = omega (arith, second-least)

  pub second-most : high ≤ 0xBF
  second-most = row-most a b.picks

-- ---- the bits

-- a continuation byte carries what it is over 80
carried : (low high b : ℕ) → 0x80 ≤ low → high ≤ 0xBF → within low high b ≡ true → b % 64 ≡ b - 0x80
carried low high b h k e = omega (arith, h, k, within-least low high b e, within-most low high b e)

module _ {text : List ℕ} {at a low high : ℕ} (b : ℕ) where
  pub two-bits : Begins text at a (some ((low to high) ∷ [])) 0xC2 0xDF → within low high b ≡ true → a % 32 * 64 + b % 64 ≡ value_of (a ∷ b ∷ [])
  two-bits s e =
      let f : a % 32 ≡ a - 0xC0 = omega (arith, s.least, s.most) in
      rw (f, carried low high b (second-least s) (second-most s) e)

  pub three-bits : (c : ℕ) → Begins text at a (some ((low to high) ∷ continuation ∷ [])) 0xE0 0xEF → within low high b ≡ true
      → within 0x80 0xBF c ≡ true → a % 16 * 4096 + b % 64 * 64 + c % 64 ≡ value_of (a ∷ b ∷ c ∷ [])
  three-bits c s e g =
      let f : a % 16 ≡ a - 0xE0 = omega (arith, s.least, s.most) in
      rw (f, carried low high b (second-least s) (second-most s) e, carried 0x80 0xBF c (omega arith) (omega arith) g)

  pub four-bits : (c d : ℕ) → Begins text at a (some ((low to high) ∷ continuation ∷ continuation ∷ [])) 0xF0 0xF4 → within low high b ≡ true
      → within 0x80 0xBF c ≡ true → within 0x80 0xBF d ≡ true
      → a % 8 * 262144 + b % 64 * 4096 + c % 64 * 64 + d % 64 ≡ value_of (a ∷ b ∷ c ∷ d ∷ [])
  four-bits c d s e g h =
      let f : a % 8 ≡ a - 0xF0 = omega (arith, s.least, s.most) in
      rw (
        f,
        carried low high b (second-least s) (second-most s) e,
        carried 0x80 0xBF c (omega arith) (omega arith) g,
        carried 0x80 0xBF d (omega arith) (omega arith) h,
      )
