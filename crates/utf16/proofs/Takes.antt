-- What begins at an index of a text of units: nothing after the end (`at-end`); a unit that is no
-- surrogate (`at_low`, `at_high`); an unpaired low surrogate (`at-unpaired-low`); and with a high
-- one a pair (`at_pair`), or a unit before the low ones or after them, or none, so that it is
-- unpaired (`at_before`, `at_after`).
use mathlib.Core.Path.{◌≡◌, refl}
use mathlib.Core.List.{List, [], ◌∷◌}
use Prim.Native.Nat.{ℕ, suc, ◌+◌, ◌-◌, ◌*◌, ◌≤◌, ◌<◌}
use native.Mathlib.Omega.{arith}
use lib.ListN.{length, get_or, drop}
use Rattle.laws.proofs.Ranges.{within-yes, within-below, within-above}
use Rattle.encodings.specs.Rows.{◌to◌}
use Rattle.encodings.specs.Forms.{pieces_in}
use Rattle.encodings.specs.Reading.{good_of, ill_of, taken_in}
use Rattle.encodings.proofs.Rows.{row-between, row-full, row-bad}
use Rattle.encodings.proofs.Taking.{Stands, begun, broken-taken, whole-taken, end-taken, one-taken, none-taken}
use Rattle.utf16.specs.Utf16.{table_d91, form16}
use Rattle.utf16.specs.Inner.{BeginsPair}

module _ (text : List ℕ) (at : ℕ) where
  pub at-end : length text ≤ at → good_of 0 0 ≡ taken_in form16 (pieces_in form16 (drop at text))
  at-end h = end-taken form16 text at h refl

  module _ (h : at < length text) {a : ℕ} (is : a ≡ get_or text at 0) where
    pub at_low : a < 0xD800 → good_of a 1 ≡ taken_in form16 (pieces_in form16 (drop at text))
    at_low l = one-taken form16 text at h is (row-full table_d91 a (row-between table_d91 0x0000 0xD7FF tt (omega arith) (omega arith))) refl

    pub at_high : 0xDFFF < a → a < 0x10000 → good_of a 1 ≡ taken_in form16 (pieces_in form16 (drop at text))
    at_high l m = one-taken form16 text at h is (row-full table_d91 a (row-between table_d91 0xE000 0xFFFF tt (omega arith) (omega arith))) refl

    pub at-unpaired-low : 0xDC00 ≤ a → a ≤ 0xDFFF → ill_of 1 ≡ taken_in form16 (pieces_in form16 (drop at text))
    at-unpaired-low l m = none-taken form16 text at h is (row-bad table_d91 a (row-between table_d91 0xDC00 0xDFFF tt l m)) refl

    pub begins-pair : 0xD800 ≤ a → a ≤ 0xDBFF → BeginsPair text at a
    begins-pair l m = record { inside = h; is = is; picks = row-between table_d91 0xD800 0xDBFF tt l m; least = l; most = m }

  -- the high surrogate a stands there, and b after it
  module _ {a : ℕ} (begins : BeginsPair text at a) {b : ℕ} (next : b ≡ get_or text (at + 1) 0) where
    stands : Stands form16 text at a [] (suc at) ((0xDC00 to 0xDFFF) ∷ [])
    stands = begun form16 table_d91 (λ u. refl) begins

    pub at_pair : 0xDC00 ≤ b → b ≤ 0xDFFF
        → good_of (0x10000 + (a - 0xD800) * 0x400 + (b - 0xDC00)) 2 ≡ taken_in form16 (pieces_in form16 (drop at text))
    at_pair p q = whole-taken stands next (omega arith) (omega arith) (within-yes 0xDC00 0xDFFF b p q) refl

    pub at_before : b < 0xDC00 → ill_of 1 ≡ taken_in form16 (pieces_in form16 (drop at text))
    at_before p = broken-taken stands next (omega arith) (within-below 0xDC00 0xDFFF b p) refl

    pub at_after : 0xDFFF < b → ill_of 1 ≡ taken_in form16 (pieces_in form16 (drop at text))
    at_after p = broken-taken stands next (omega arith) (within-above 0xDC00 0xDFFF b p) refl
