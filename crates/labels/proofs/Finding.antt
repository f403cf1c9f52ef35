-- Reading one record of an image.
--
-- It has: the checks 1, 6 and 7 (`one-over`, `one_number`, `one_inside`, `one-record`); what is
-- known of a record that passes them (`taken-over`, `taken-number`, `taken-inside`, `taken-layout`,
-- `taken-short`, `taken-size`, `taken-label`); the entry that was read (`size-short`); and the ways
-- in which the call returns (`finds-refused`, `finds-lacking`, `finds-done`).
use mathlib.Core.Path.{◌≡◌, sym, ◌∙◌, ap}
use mathlib.Core.List.{List, [], ◌∷◌}
use Prim.Native.Nat.{ℕ, ◌+◌, ◌-◌, ◌*◌, ◌≤◌, ◌<◌}
use native.Mathlib.Omega.{arith}
use lib.ListN.{length, take, drop, length-drop, take-append-drop}
use lib.Seq.{length-take-le, take-append-le, drop-append-le, drop-drop}
use Rattle.std.specs.Prelude.{Result, Ok, Err}
use Rattle.laws.specs.Writing.{front}
use Rattle.answers.specs.Checks.{passes, refuses, in_order, no_room}
use Rattle.answers.specs.Answers.{checked}
use Rattle.answers.specs.declared.refusal.Refusal.{Refusal}
use Rattle.answers.proofs.Verdicts.{refused-before, refused-lacking, filled-whole}
use Rattle.labels.specs.Records.{size_of, label_of, entry_of, layout}
use Rattle.labels.specs.Images.{record_at, over_image, no_record, takes_record, Finds}
use Rattle.labels.specs.declared.record.Entry.{Entry}
use Rattle.answers.proofs.Orders.{order-first, order-rest, order-one}
use Rattle.labels.proofs.Layouts.{label-length, layout-good}
use Rattle.labels.proofs.Images.{at_length, image-over, image-within, number-inside}

-- ---- 1, 6 and 7: v is what the check of the number said, and w that of the record

module _ (image : List ℕ) (k : ℕ) where
  pub one-over : 65472 < length image → refuses 1 65472 ≡ takes_record image k
  unfolding takes_record
  one-over h = simp (image-over image h)

  module _ (within : length image ≤ 65472) {v : Result (Unit {0}) Refusal} (said : checked v ≡ no_record image k) where
    pub one_number : {r : Refusal} → v ≡ Err r → checked (Err r) ≡ takes_record image k
    unfolding takes_record
    one_number q = simp (image-within image within, sym said ∙ ap checked q)

    pub one_inside : v ≡ Ok tt → 96 * k + 96 ≤ length image
    one_inside q = number-inside image k (sym said ∙ ap checked q)

    pub one-record : v ≡ Ok tt → (w : Result (Unit {0}) Refusal) → checked w ≡ layout (record_at image k) → checked w ≡ takes_record image k
    unfolding takes_record
    one-record q w e = simp (image-within image within, sym said ∙ ap checked q) (e ∙ sym (order-one (layout (record_at image k))))

-- ---- a record that passes them

-- the bytes from the eighth on of a list are those of its first 96, as far as these go
pub from-eighth : (n : ℕ) (l : List ℕ) → n ≤ 88 → 96 ≤ length l → take n (drop 8 l) ≡ take n (drop 8 (take 96 l))
from-eighth n l h f =
    let size : length (drop 8 (take 96 l)) ≡ 88 = omega (arith, length-drop 8 (take 96 l), length-take-le 96 l f) in
    ap (λ (x : List ℕ). take n (drop 8 x)) (sym (take-append-drop 96 l))
    ∙ ap (take n) (drop-append-le 8 (take 96 l) (drop 96 l) (omega (arith, length-take-le 96 l f)))
    ∙ take-append-le n (drop 8 (take 96 l)) (drop 96 l) (omega (arith, size))

module _ (image : List ℕ) (k : ℕ) (taken : takes_record image k ≡ passes) where
  one-rest : in_order (no_record image k ∷ layout (record_at image k) ∷ []) ≡ passes
  unfolding takes_record
  one-rest = order-rest (over_image image) (no_record image k ∷ layout (record_at image k) ∷ []) taken

  -- the image is within the limit, and has that record
  pub taken-over : over_image image ≡ passes
  unfolding takes_record
  taken-over = order-first (over_image image) (no_record image k ∷ layout (record_at image k) ∷ []) taken

  pub taken-number : no_record image k ≡ passes
  taken-number = order-first (no_record image k) (layout (record_at image k) ∷ []) one-rest

  -- it stands in the image
  pub taken-inside : 96 * k + 96 ≤ length image
  taken-inside = number-inside image k taken-number

  -- it keeps the layout
  pub taken-layout : layout (record_at image k) ≡ passes
  taken-layout =
      sym (order-one (layout (record_at image k))) ∙ order-rest (no_record image k) (layout (record_at image k) ∷ []) one-rest

  -- so its label has at most 88 bytes, and is as long as the length byte says
  pub taken-short : size_of (record_at image k) ≤ 88
  taken-short = (layout-good (record_at image k) (at_length image k taken-inside) taken-layout).short

  pub taken-size : length (label_of (record_at image k)) ≡ size_of (record_at image k)
  taken-size = label-length (record_at image k) (at_length image k taken-inside) taken-short

  -- the bytes that the code copies are the label
  pub taken-label : (n : ℕ) → n ≡ size_of (record_at image k)
      → take (96 * k + 8 + n - (96 * k + 8)) (drop (96 * k + 8) image) ≡ label_of (record_at image k)
  unfolding label_of record_at
  taken-label n e =
      let m : 96 * k + 8 + n - (96 * k + 8) ≡ n = omega arith in
      let room : 96 ≤ length (drop (96 * k) image) = omega (arith, length-drop (96 * k) image, taken-inside) in
      rw (m, ← drop-drop 8 (96 * k) image)
      (from-eighth n (drop (96 * k) image) (omega (arith, taken-short)) room
      ∙ ap (λ (x : ℕ). take x (drop 8 (take 96 (drop (96 * k) image)))) e)

-- ---- the call's returns

-- the entry is that of the record
module _ (image : List ℕ) (k : ℕ) (taken : takes_record image k ≡ passes) {entry : Entry}
    (entry-is : entry ≡ entry_of (record_at image k)) where
  pub size_is : entry.length ≡ length (label_of (record_at image k))
  size_is = ap (λ (e : Entry). e.length) entry-is ∙ sym (taken-size image k taken)

  pub size-short : entry.length ≤ 88
  size-short = omega (arith, ap (λ (e : Entry). e.length) entry-is, taken-short image k taken)

  module _ (out : List ℕ) where
    -- v is what the check of the room said
    module _ {v : Result (Unit {0}) Refusal} (found : checked v ≡ no_room (length out) entry.length) where
      pub finds-lacking : {r : Refusal} → v ≡ Err r → Finds image k out (Err r) out
      finds-lacking q = record { fills = refused-lacking taken (sym (found ∙ ap (no_room (length out)) size_is) ∙ ap checked q) }

    pub finds-done : entry.length ≤ length out
        → {out' : List ℕ} → out' ≡ front (take (96 * k + 8 + entry.length - (96 * k + 8)) (drop (96 * k + 8) image)) out
        → Finds image k out (Ok entry) out'
    finds-done h e =
        let l = taken-label image k taken entry.length (ap (λ (e : Entry). e.length) entry-is) in
        let fits : length (label_of (record_at image k)) ≤ length out = omega (arith, size_is) in
        rw entry-is (record { fills = filled-whole taken fits (rw l at e) })

-- v is what the checks said
pub finds-refused : (image : List ℕ) (k : ℕ) (out : List ℕ) {v : Result (Unit {0}) Refusal} {r : Refusal} → checked v ≡ takes_record image k → v ≡ Err r
    → Finds image k out (Err r) out
finds-refused image k out e q = record { fills = refused-before (sym e ∙ ap checked q) }
