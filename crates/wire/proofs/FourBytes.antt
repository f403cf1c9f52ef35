-- Numbers of 32 bits at an index, read and written. In order: a number that is not there, and one
-- that is; one number written, and the next of many.
use mathlib.Core.Path.{◌≡◌, refl, sym, ◌∙◌}
use mathlib.Core.List.{List, [], ◌∷◌}
use Prim.Native.Nat.{ℕ, ◌+◌, ◌-◌, ◌*◌, ◌/◌, ◌%◌, ◌≤◌, ◌<◌}
use native.Mathlib.Omega.{arith}
use borrow.Rule.Slice.PartMut.{put_mid}
use lib.ListN.{length, get_or, drop, length-drop}
use lib.Seq.{sets}
use Rattle.laws.specs.Lists.{each}
use Rattle.laws.specs.Writing.{fitted}
use Rattle.laws.proofs.Lists.{four-at}
use Rattle.laws.proofs.Filling.{Piece, Filling, wrote-unfitted}
use Rattle.wire.specs.Numbers.{element_at, low_first, first_number, number_at, length-number}
use Rattle.wire.proofs.Elements.{put-copied, length-each, put-piece}

-- ---- reading

first-none : (bytes : List ℕ) → length bytes < 4 → first_number bytes ≡ 0
unfolding first_number
first-none [] h = refl
first-none (a ∷ []) h = refl
first-none (a ∷ b ∷ []) h = refl
first-none (a ∷ b ∷ c ∷ []) h = refl
first-none (a ∷ b ∷ c ∷ d ∷ rest) h = absurd (omega arith)

first_some : (bytes : List ℕ) (at : ℕ) → at + 3 < length bytes
    → first_number (drop at bytes)
    ≡ get_or bytes at 0 + 0x100 * get_or bytes (at + 1) 0 + 0x10000 * (get_or bytes (at + 2) 0 + 0x100 * get_or bytes (at + 3) 0)
unfolding first_number
first_some bytes at h = rw (four-at 0 bytes at (omega arith))

pub number-none : (bytes : List ℕ) (index : ℕ) → length bytes / 4 ≤ index → number_at bytes index ≡ 0
unfolding element_at
number-none bytes index h = first-none (drop (4 * index) bytes) (simp length-drop (omega arith))

pub number-some : (bytes : List ℕ) (index : ℕ) {number : ℕ} → index < length bytes / 4
    → number ≡ get_or bytes (4 * index) 0 + get_or bytes (4 * index + 1) 0 * 0x100 + get_or bytes (4 * index + 2) 0 * 0x10000 + get_or bytes (4 * index + 3) 0 * 0x1000000
    → number ≡ number_at bytes index
unfolding element_at
number-some bytes index h e = omega (arith, e, first_some bytes (4 * index) (omega arith))

-- ---- writing

low-first : (value : ℕ) → low_first value ≡ value % 0x100 ∷ value / 0x100 % 0x100 ∷ value / 0x10000 % 0x100 ∷ value / 0x1000000 ∷ []
unfolding low_first
low-first value = refl

pub put-none : (value index : ℕ) (bytes : List ℕ) → length bytes / 4 ≤ index
    → bytes ≡ sets bytes (4 * index) (fitted (low_first value) bytes (4 * index))
put-none value index bytes h = (wrote-unfitted {out = bytes} {at = 4 * index} (low-first value) (omega arith)).holds

-- as the library writes them, the highest byte is cut to a byte too
pub put-four : (value index : ℕ) (bytes : List ℕ) {four new : List ℕ} → index < length bytes / 4 → value < 0x100000000
    → four ≡ value % 0x100 ∷ value / 0x100 % 0x100 ∷ value / 0x10000 % 0x100 ∷ value / 0x1000000 % 0x100 ∷ [] → new ≡ four
    → put_mid (4 * index) (4 * index + 4 - 4 * index) bytes new ≡ sets bytes (4 * index) (fitted (low_first value) bytes (4 * index))
put-four value index bytes h small w e =
    let high : value / 0x1000000 % 0x100 ≡ value / 0x1000000 = omega arith in
    put-copied bytes (4 * index) 4 (length-number value) (omega arith) (e ∙ w ∙ rw high (sym (low-first value)))

-- many numbers: as long as they are
pub length-each-number : (values : List ℕ) → length (each low_first values) ≡ 4 * length values
length-each-number values = length-each 4 low_first length-number values

-- of a `whole` that fits the next number is written
pub put_next : {whole out₀ : List ℕ} (h : length whole ≤ length out₀) (value : ℕ) {left rest out out' : List ℕ} {k k' : ℕ}
    → Filling whole left out₀ out k → Piece left (low_first value) rest → out' ≡ sets out k (fitted (low_first value) out k) → k' ≡ k + 4
    → Filling whole rest out₀ out' k'
put_next h value f p e n = put-piece h (length-number value) f p e n
