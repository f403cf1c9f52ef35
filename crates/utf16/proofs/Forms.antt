-- UTF-16 is an encoding form. In order: the well-formed sequences, out of D91, with their bounds
-- (`Formed`, `full-formed`, `formed-short`); each has a scalar value (`full-good`), and is that
-- value's sequence (`full-units`); of a scalar value the units are well-formed and have its value
-- (`units-full`, `units-value`); and the form (`encodes16`).
use mathlib.Core.Path.{◌≡◌, sym, ◌∙◌}
use mathlib.Core.Bool.{false}
use mathlib.Core.Option.{none}
use mathlib.Core.Logic.{inl, inr, ⊎_elim}
use mathlib.Core.List.{List, [], ◌∷◌}
use Prim.Native.Nat.{ℕ, ◌+◌, ◌-◌, ◌*◌, ◌/◌, ◌%◌, ◌≤◌, ◌<◌}
use native.Mathlib.Omega.{arith}
use lib.ListN.{length}
use Rattle.laws.proofs.Ranges.{Cases, look-cases}
use Rattle.answers.specs.Checks.{bad}
use Rattle.answers.proofs.Checks.{good-low, good-high, good-most, good-gap}
use Rattle.encodings.specs.Pieces.{full}
use Rattle.encodings.specs.Rows.{◌to◌, in_row, row_in, kind_by}
use Rattle.encodings.specs.Forms.{Encodes}
use Rattle.encodings.proofs.Rows.{row-between, row-full, full-bad, Follow, ends, goes, full-follow, full_by, starts_by, coherent-by}
use Rattle.utf16.specs.Utf16.{table_d91, value16, units16, form16}
use Rattle.utf16.proofs.Writing.{units-one, units-two, by_size}

-- ---- the well-formed sequences

pub data Formed : List ℕ → Type 0 where
  of_low : (a : ℕ) → a ≤ 0xD7FF → Formed (a ∷ [])
  of_pair : (a b : ℕ) → 0xD800 ≤ a → a ≤ 0xDBFF → 0xDC00 ≤ b → b ≤ 0xDFFF → Formed (a ∷ b ∷ [])
  of-high : (a : ℕ) → 0xE000 ≤ a → a ≤ 0xFFFF → Formed (a ∷ [])

-- one law a row, named by its first unit
formed-0000 : {a : ℕ} {x : List ℕ} → a ≤ 0xD7FF → Follow [] x → Formed (a ∷ x)
formed-0000 {a} m ends = of_low a m

formed-D800 : {a : ℕ} {x : List ℕ} → 0xD800 ≤ a → a ≤ 0xDBFF → Follow ((0xDC00 to 0xDFFF) ∷ []) x → Formed (a ∷ x)
formed-D800 {a} l m (goes {b = b} p q ends) = of_pair a b l m p q

formed-E000 : {a : ℕ} {x : List ℕ} → 0xE000 ≤ a → a ≤ 0xFFFF → Follow [] x → Formed (a ∷ x)
formed-E000 {a} l m ends = of-high a l m

formed-row : (a : ℕ) (x : List ℕ) → Cases none (λ r. in_row r x ≡ full) a table_d91 → Formed (a ∷ x)
formed-row a x (inl h) = formed-0000 h.1.0 (full-follow _ x h.1.1)
formed-row a x (inr (inl h)) = formed-D800 h.0 h.1.0 (full-follow _ x h.1.1)
formed-row a x (inr (inr (inl h))) = formed-E000 h.0 h.1.0 (full-follow _ x h.1.1)
formed-row a x (inr (inr (inr e))) = absurd (full-bad (sym e))

pub full-formed : (u : List ℕ) → kind_by table_d91 u ≡ full → Formed u
unfolding row_in
full-formed [] e = absurd (full-bad (sym e))
full-formed (a ∷ x) e = formed-row a x (look-cases none (λ r. in_row r x ≡ full) a table_d91 e)

pub formed-short : {u : List ℕ} → Formed u → length u ≤ 2
formed-short (of_low a m) = omega arith
formed-short (of_pair a b l m p q) = omega arith
formed-short (of-high a l m) = omega arith

-- ---- their values, and back

formed-good : {u : List ℕ} → Formed u → bad (value16 u) ≡ false
formed-good (of_low a m) = good-low a (omega arith)
formed-good (of_pair a b l m p q) = good-high _ (omega arith) (omega arith)
formed-good (of-high a l m) = good-high a (omega arith) (omega arith)

formed-units : {u : List ℕ} → Formed u → units16 (value16 u) ≡ u
formed-units (of_low a m) = units-one a (omega arith)
formed-units (of_pair a b l m p q) =
    let v = 0x10000 + (a - 0xD800) * 0x400 + (b - 0xDC00) in
    let first : 0xD800 + (v - 0x10000) / 0x400 ≡ a = omega arith in
    let second : 0xDC00 + (v - 0x10000) % 0x400 ≡ b = omega arith in
    units-two v (omega arith) ∙ cc
formed-units (of-high a l m) = units-one a (omega arith)

pub full-good : (u : List ℕ) → kind_by table_d91 u ≡ full → bad (value16 u) ≡ false
full-good u e = formed-good (full-formed u e)

pub full-units : (u : List ℕ) → kind_by table_d91 u ≡ full → units16 (value16 u) ≡ u
full-units u e = formed-units (full-formed u e)

-- ---- from a scalar value to its units

module _ (c : ℕ) where
  -- they are well-formed
  pub units-full : bad c ≡ false → kind_by table_d91 (units16 c) ≡ full
  units-full g = by_size c one two
    where
      one : c < 0x10000 → kind_by table_d91 (units16 c) ≡ full
      one h =
          rw (units-one c h)
          (⊎_elim (λ k. row-full table_d91 c (row-between table_d91 0x0000 0xD7FF tt (omega arith) (omega arith)))
          (λ k. row-full table_d91 c (row-between table_d91 0xE000 0xFFFF tt (omega arith) (omega arith))) (good-gap c g))

      two : 0x10000 ≤ c → kind_by table_d91 (units16 c) ≡ full
      two h =
          let m = good-most c g in
          rw (units-two c h)
          (full_by table_d91 (0xD800 + (c - 0x10000) / 0x400) (row-between table_d91 0xD800 0xDBFF tt (omega arith) (omega (arith, m)))
          (goes (omega arith) (omega arith) ends))

  -- and have its value
  pub units-value : value16 (units16 c) ≡ c
  units-value = by_size c (λ h. rw (units-one c h)) (λ h. rw (units-two c h) (omega (arith, h)))

-- UTF-16 IS AN ENCODING FORM
pub encodes16 : Encodes form16
encodes16 = record {
  coherent = coherent-by 0xDC00 0xDFFF table_d91 tt;
  leads = record { starts = starts_by 0xDC00 0xDFFF table_d91 tt };
  full-good = full-good;
  full-units = full-units;
  units-full = units-full;
  units-code = λ c g. units-value c;
}
