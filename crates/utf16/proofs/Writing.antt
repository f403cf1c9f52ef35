-- Laws of writing UTF-16: a code point's units by its bounds (`units-one`, `units-two`), how many
-- they are (`long-one`, `long-two`, `units-least`), those of U+FFFD (`mark-units`),
-- and how many a text's are (`write-least`, `write-most`).
use mathlib.Core.Path.{◌≡◌, sym, ap}
use mathlib.Core.List.{List, [], ◌∷◌}
use Prim.Native.Nat.{ℕ, ◌+◌, ◌-◌, ◌*◌, ◌/◌, ◌%◌, ◌≤◌, ◌<◌}
use native.Mathlib.Omega.{arith}
use lib.Dec.{ltb}
use lib.ListN.{length}
use borrow.Author.Tests.{lt-ltb, le-ltb, ltb-true, ltb-false}
use Rattle.laws.proofs.Bools.{test}
use Rattle.laws.proofs.Lists.{length-each-least, length-each-most}
use Rattle.utf16.specs.Utf16.{units16, write_units}
use Rattle.utf16.specs.Most.{units-most}

module _ (c : ℕ) where
  pub units-one : c < 0x10000 → units16 c ≡ c ∷ []
  unfolding units16
  units-one h = rw (lt-ltb c 0x10000 h)

  pub units-two : 0x10000 ≤ c → units16 c ≡ (0xD800 + (c - 0x10000) / 0x400) ∷ (0xDC00 + (c - 0x10000) % 0x400) ∷ []
  unfolding units16
  units-two h = rw (le-ltb c 0x10000 h)

  -- ---- how many they are, as the code counts them

  pub long-one : c < 0x10000 → 1 ≡ length (units16 c)
  long-one h = sym (ap length (units-one h))

  pub long-two : 0x10000 ≤ c → 2 ≡ length (units16 c)
  long-two h = sym (ap length (units-two h))

  -- a code point is of one of the two cases
  pub by_size : {G : Type 0} → (c < 0x10000 → G) → (0x10000 ≤ c → G) → G
  by_size one two = test (ltb c 0x10000) (λ e. one (ltb-true c 0x10000 e)) (λ e. two (ltb-false c 0x10000 e))

  pub units-least : 1 ≤ length (units16 c)
  units-least = by_size (λ h. omega (arith, long-one h)) (λ h. omega (arith, long-two h))

-- the unit of U+FFFD
pub mark-units : units16 0xFFFD ≡ 0xFFFD ∷ []
mark-units = units-one 0xFFFD (omega arith)

-- ---- a text's units: at least n, at most 2n

pub write-least : (x : List ℕ) → length x ≤ length (write_units x)
write-least x = length-each-least units16 units-least x

pub write-most : (x : List ℕ) → length (write_units x) ≤ 2 * length x
write-most x = length-each-most units16 2 units-most x
