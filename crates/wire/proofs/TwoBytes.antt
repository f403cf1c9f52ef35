-- Units of 16 bits at an index, read and written. In order: a unit that is not there, and one that
-- is; one unit written, and the next of many.
use mathlib.Core.Path.{◌≡◌, refl, sym, ◌∙◌}
use mathlib.Core.List.{List, [], ◌∷◌}
use Prim.Native.Nat.{ℕ, ◌+◌, ◌-◌, ◌*◌, ◌/◌, ◌%◌, ◌≤◌, ◌<◌}
use native.Mathlib.Omega.{arith}
use borrow.Rule.Slice.PartMut.{put_mid}
use lib.ListN.{length, get_or, drop, length-drop}
use lib.Seq.{sets}
use Rattle.laws.specs.Writing.{fitted}
use Rattle.laws.proofs.Lists.{at-index}
use Rattle.laws.proofs.Filling.{wrote-unfitted}
use Rattle.wire.specs.Numbers.{element_at, unit_bytes, first_unit, unit_at, length-unit}
use Rattle.wire.proofs.Elements.{put-copied}

-- ---- reading

first-none : (bytes : List ℕ) → length bytes < 2 → first_unit bytes ≡ 0
unfolding first_unit
first-none [] h = refl
first-none (a ∷ []) h = refl
first-none (a ∷ b ∷ rest) h = absurd (omega arith)

first_some : (bytes : List ℕ) (at : ℕ) → at + 1 < length bytes → first_unit (drop at bytes) ≡ get_or bytes at 0 + 0x100 * get_or bytes (at + 1) 0
unfolding first_unit
first_some bytes at h = rw (at-index 0 bytes at (omega arith), at-index 0 bytes (at + 1) h)

pub unit-none : (bytes : List ℕ) (index : ℕ) → length bytes / 2 ≤ index → unit_at bytes index ≡ 0
unfolding element_at
unit-none bytes index h = first-none (drop (2 * index) bytes) (simp length-drop (omega arith))

pub unit-some : (bytes : List ℕ) (index : ℕ) {unit : ℕ} → index < length bytes / 2
    → unit ≡ get_or bytes (2 * index) 0 + get_or bytes (2 * index + 1) 0 * 0x100 → unit ≡ unit_at bytes index
unfolding element_at
unit-some bytes index h e = omega (arith, e, first_some bytes (2 * index) (omega arith))

-- ---- writing

unit-bytes : (value : ℕ) → unit_bytes value ≡ value % 0x100 ∷ value / 0x100 ∷ []
unfolding unit_bytes
unit-bytes value = refl

pub put-none : (value index : ℕ) (bytes : List ℕ) → length bytes / 2 ≤ index
    → bytes ≡ sets bytes (2 * index) (fitted (unit_bytes value) bytes (2 * index))
put-none value index bytes h = (wrote-unfitted {out = bytes} {at = 2 * index} (unit-bytes value) (omega arith)).holds

-- as the library writes them, the high byte is cut to a byte too
pub put-two : (value index : ℕ) (bytes : List ℕ) {two new : List ℕ} → index < length bytes / 2 → value < 0x10000
    → two ≡ value % 0x100 ∷ value / 0x100 % 0x100 ∷ [] → new ≡ two
    → put_mid (2 * index) (2 * index + 2 - 2 * index) bytes new ≡ sets bytes (2 * index) (fitted (unit_bytes value) bytes (2 * index))
put-two value index bytes h small w e =
    let high : value / 0x100 % 0x100 ≡ value / 0x100 = omega arith in
    put-copied bytes (2 * index) 2 (length-unit value) (omega arith) (e ∙ w ∙ rw high (sym (unit-bytes value)))
