-- Table 3-7 as an encoding by rows. In order: no row for a first byte over F4 (`row-over`); every
-- range of a row is that of continuation bytes or a part of it, and has a byte (`row-least`,
-- `row-most`), so that THE KIND OF A SEQUENCE IS COHERENT (`coherent8`) and a byte that is no
-- continuation byte begins a piece (`leads8`); and a sequence that is begun (`begun8`). What holds
-- of any table stands in crate encodings, proofs/Rows and proofs/Taking.
use mathlib.Core.Path.{◌≡◌, refl}
use mathlib.Core.Option.{none, some}
use mathlib.Core.List.{List, [], ◌∷◌}
use Prim.Native.Nat.{ℕ, suc, ◌≤◌, ◌<◌}
use native.Mathlib.Omega.{arith}
use Rattle.laws.proofs.Ranges.{within-above}
use Rattle.encodings.specs.Readings.{Coherent}
use Rattle.encodings.specs.Damage.{Leads}
use Rattle.encodings.specs.Rows.{Units, ◌to◌, row_in}
use Rattle.encodings.proofs.Rows.{inner-least, inner-most, row-inner, starts_by, coherent-by}
use Rattle.encodings.proofs.Taking.{Stands, begun}
use Rattle.utf8.specs.Table37.{table37, row_of, kind_of}
use Rattle.utf8.specs.Utf8.{utf8, form8}
use Rattle.utf8.specs.Inner.{Begins}

-- over the last range there is none
pub row-over : {a : ℕ} → 0xF4 < a → row_of a ≡ none
unfolding row_in
row-over {a} h = simp (
  within-above 0x00 0x7F a (omega arith),
  within-above 0xC2 0xDF a (omega arith),
  within-above 0xE0 0xE0 a (omega arith),
  within-above 0xE1 0xEC a (omega arith),
  within-above 0xED 0xED a (omega arith),
  within-above 0xEE 0xEF a (omega arith),
  within-above 0xF0 0xF0 a (omega arith),
  within-above 0xF1 0xF3 a (omega arith),
  within-above 0xF4 0xF4 a h,
)

-- ---- the ranges of a row

module _ (a : ℕ) {lo hi : ℕ} {row : List Units} (e : row_of a ≡ some ((lo to hi) ∷ row)) where
  pub row-least : 0x80 ≤ lo
  row-least = inner-least 0x80 0xBF lo hi row (row-inner 0x80 0xBF table37 tt a e)

  pub row-most : hi ≤ 0xBF
  row-most = inner-most 0x80 0xBF lo hi row (row-inner 0x80 0xBF table37 tt a e)

pub coherent8 : Coherent kind_of
coherent8 = coherent-by 0x80 0xBF table37 tt

pub leads8 : Leads utf8
leads8 = record { starts = starts_by 0x80 0xBF table37 tt }

-- ---- a sequence that is begun

pub begun8 : {text : List ℕ} {at a lo hi : ℕ} {r : Units} {row : List Units} → Begins text at a (some (r ∷ row)) lo hi
    → Stands form8 text at a [] (suc at) (r ∷ row)
begun8 h = begun form8 table37 (λ u. refl) h
