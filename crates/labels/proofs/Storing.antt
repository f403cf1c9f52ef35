-- Writing a record into its place in an image.
--
-- It has: a fresh record filled (`started`, `record-made`), and its place in the image
-- (`put-placed`); bytes that are stored or too many (`stores-refused`, `stores-done`), and those
-- that a label joins to (`joined-refused`, `joined-count`, `joined-fits`, `joined-most`,
-- `joined-done`); the checks 1, 1 and 6 (`places-over`, `places-label`, `places-number`,
-- `stored-inside`, `stored-taken`); and the ways in which the call returns (`writes-refused`,
-- `writes-ill`, `writes-given`, `writes-joined`).
use mathlib.Core.Path.{◌≡◌, refl, sym, ◌∙◌, ap}
use mathlib.Core.List.{List, [], ◌∷◌, ◌++◌, append-nil}
use Prim.Native.Nat.{ℕ, zero, suc, ◌+◌, ◌-◌, ◌*◌, ◌≤◌, ◌<◌}
use native.Mathlib.Omega.{arith}
use lib.Dec.{ltb}
use lib.ListN.{length, take, drop, set, length-append}
use lib.Seq.{take-append_seam}
use borrow.Rule.Slice.PartMut.{put_mid, Post-is}
use borrow.Author.Tests.{ltb-true, ltb-false, le-leb, lt-leb, eq-eqb, ne_eqb}
use Rattle.std.specs.Int.{w16, w32, to_be_bytes}
use Rattle.std.specs.Prelude.{Result, Ok, Err}
use Rattle.laws.specs.Writing.{front}
use Rattle.laws.proofs.Bools.{test}
use Rattle.answers.specs.Checks.{Check, passes, refuses, in_order, takes_bytes}
use Rattle.answers.specs.Answers.{checked}
use Rattle.answers.specs.declared.refusal.Refusal.{Refusal}
use Rattle.answers.specs.declared.refusal.Refusal.TheVariants.{NoRoom, BadLayout}
use Rattle.answers.proofs.Verdicts.{refused-room}
use Rattle.answers.proofs.Orders.{order-first, order-rest, order-one, order-refused, order-passed}
use Rattle.encodings.specs.declared.answer.Counted.{Counted}
use Rattle.encodings.proofs.Reading.{reads-unique}
use Rattle.encodings.proofs.Ills.{first-ill-none, first-ill-end}
use Rattle.utf8.specs.Utf8.{form8, ill_text, first_ill}
use Rattle.utf8.specs.Reading.{Reads, counted_of}
use Rattle.utf8.proofs.Round.{encodes8}
use Rattle.mending.specs.Mending.{mended}
use Rattle.mending.proofs.Round.{call-done}
use Rattle.labels.specs.Records.{zeros, fresh_record, record_of}
use Rattle.labels.specs.Images.{replaced, over_image, no_record, stored, no_label, takes_writing, Writes}
use Rattle.labels.specs.Inner.{too_many, Stores}
use Rattle.labels.specs.declared.write.Form.{Form}
use Rattle.labels.specs.declared.write.Form.TheVariants.{AsGiven, Joined}
use Rattle.labels.proofs.Numbers.{four_bytes, two_bytes}
use Rattle.labels.proofs.Records.{record-length}
use Rattle.labels.proofs.Images.{image-over, image-within, number-inside}

-- ---- a fresh record filled

-- its numbers, and how long the label is
abbrev pub started : List ℕ → List ℕ → List ℕ → ℕ → List ℕ
started fresh high low size = set (put_mid 4 2 (high ++ drop 4 fresh) low) 6 size

drop-zeros : (n m : ℕ) → drop n (zeros m) ≡ zeros (m - n)
drop-zeros zero m = let e : m - 0 ≡ m = omega arith in rw e
drop-zeros (suc n) zero = let e : 0 - suc n ≡ 0 = omega arith in rw e
drop-zeros (suc n) (suc m) = let e : suc m - suc n ≡ m - n = omega arith in rw e (drop-zeros n m)

module _ (object berth : ℕ) (label : List ℕ) {fresh high low : List ℕ} (f : fresh ≡ fresh_record) (p : high ≡ to_be_bytes w32 object)
    (q : low ≡ to_be_bytes w16 berth) where
  -- and then the label
  made : {last : List ℕ} → last ≡ front label (take 88 (drop 8 (started fresh high low (length label))))
      → put_mid 8 88 (started fresh high low (length label)) last ≡ record_of object berth label
  unfolding fresh_record record_of
  made e = rw (e, f, p, q, four_bytes object, two_bytes berth, append-nil, drop-zeros (length label) 88)

  pub record-made : length label ≤ 88 → {last : List ℕ} → last ≡ front label (take 88 (drop 8 (started fresh high low (length label))))
      → (96 ≡ length (put_mid 8 88 (started fresh high low (length label)) last))
      × (put_mid 8 88 (started fresh high low (length label)) last ≡ record_of object berth label)
  record-made short e =
      let whole = made e in
      (sym (ap length whole ∙ record-length object berth label short), whole)

-- ---- in its place

-- the place is the record's in the image
pub put-placed : (image : List ℕ) (k : ℕ) (bytes : List ℕ) {place : List ℕ} → place ≡ bytes
    → put_mid (96 * k) (96 * k + 96 - 96 * k) image place ≡ replaced image k bytes
unfolding replaced
put-placed image k bytes e =
    rw e (ap (λ (l : List ℕ). take (96 * k) image ++ (bytes ++ l)) (Post-is (96 * k) (96 * k + 96) image (omega arith)))

-- ---- bytes stored

module _ (image : List ℕ) (k object berth : ℕ) (bytes : List ℕ) where
  pub stores-refused : 88 < length bytes → Stores image k object berth bytes (Err (BadLayout 8)) image
  unfolding too_many
  stores-refused h = record { answers = simp (lt-leb (length bytes) 88 h); leaves = simp (lt-leb (length bytes) 88 h) }

  pub stores-done : length bytes ≤ 88 → {image' : List ℕ} → image' ≡ replaced image k (record_of object berth bytes)
      → Stores image k object berth bytes (Ok tt) image'
  unfolding too_many
  stores-done h e = record { answers = simp (le-leb (length bytes) 88 h); leaves = e ∙ simp (le-leb (length bytes) 88 h) }

-- ---- what a label joins to, made in a buffer of 88 bytes

not_done : {c : Counted} {r : Refusal} → Ok c ≡ Err r → ⊥
not_done e = let z : ◌≡◌ {A = ℕ} 0 1 = cc in omega arith

module _ (label out : List ℕ) (taken : takes_bytes label ≡ passes) {r : Result Counted Refusal} {out' : List ℕ} (made : Reads mended label out r out') where
  -- it is refused if there is no room
  joined-long : 88 ≤ length out → {refusal : Refusal} → r ≡ Err refusal → 88 < length (mended label)
  joined-long h q =
      test (ltb 88 (length (mended label))) (λ e. ltb-true 88 (length (mended label)) e)
      (λ e. absurd (not_done (sym (call-done form8 label out taken (omega (arith, ltb-false 88 (length (mended label)) e)) made).0 ∙ q)))

  pub joined-refused : (image : List ℕ) (k object berth : ℕ) → 88 ≤ length out → {refusal : Refusal} → r ≡ Err refusal
      → Stores image k object berth (mended label) (Err (BadLayout 8)) image
  joined-refused image k object berth h q = stores-refused image k object berth (mended label) (joined-long h q)

  module _ {counted : Counted} (done : r ≡ Ok counted) where
    refused-long : length out < length (mended label) → Reads mended label out (Err (NoRoom (length (mended label)))) out
    refused-long h = record { fills = refused-room taken refl h }

    joined-room : length (mended label) ≤ length out
    joined-room =
        test (ltb (length out) (length (mended label)))
        (λ e. absurd (not_done (sym done ∙ (reads-unique mended label out made (refused-long (ltb-true (length out) (length (mended label)) e))).0)))
        (λ e. ltb-false (length out) (length (mended label)) e)

    counted_is : counted ≡ counted_of mended label
    counted_is =
        let e = (call-done form8 label out taken joined-room made).0 in
        cc

    joined-size : counted.length ≡ length (mended label)
    joined-size = ap (λ (c : Counted). c.length) counted_is

    -- what was counted is the front of the buffer, and that is what is stored
    joined-front : take counted.length out' ≡ mended label
    joined-front =
        rw (joined-size, (call-done form8 label out taken joined-room made).1) (take-append_seam (mended label) (drop (length (mended label)) out))

    pub joined-count : counted.length ≡ length (take counted.length out')
    joined-count = joined-size ∙ ap length (sym joined-front)

    pub joined-fits : counted.length ≤ length out'
    joined-fits =
        let n = simp length-append at (ap length (call-done form8 label out taken joined-room made).1) in
        omega (arith, joined-size, n)

    pub joined-most : length out ≤ 88 → length (take counted.length out') ≤ 88
    joined-most h = rw joined-front (omega (arith, joined-room))

    pub joined-done : (image : List ℕ) (k object berth : ℕ) → length out ≤ 88
        → {image' : List ℕ} → image' ≡ replaced image k (record_of object berth (take counted.length out'))
        → Stores image k object berth (mended label) (Ok tt) image'
    joined-done image k object berth h e =
        stores-done image k object berth (mended label) (omega (arith, joined-room)) (rw joined-front at e)

-- ---- 1, 1 and 6

abbrev places : List ℕ → ℕ → List ℕ → Check
places image k label = in_order (over_image image ∷ takes_bytes label ∷ no_record image k ∷ [])

module _ (image : List ℕ) (k : ℕ) (label : List ℕ) where
  pub places-over : 65472 < length image → refuses 1 65472 ≡ places image k label
  places-over h = simp (image-over image h)

  -- v is what the check of the label said, and w that of the number
  module _ (within : length image ≤ 65472) {v : Result (Unit {0}) Refusal} (said : checked v ≡ takes_bytes label) where
    pub places-label : {r : Refusal} → v ≡ Err r → checked (Err r) ≡ places image k label
    places-label q = simp (image-within image within, sym said ∙ ap checked q)

    pub places-number : v ≡ (Ok tt) → (w : Result (Unit {0}) Refusal) → checked w ≡ no_record image k → checked w ≡ places image k label
    places-number q w e = simp (image-within image within, sym said ∙ ap checked q) (e ∙ sym (order-one (no_record image k)))

  -- back: what has passed them
  module _ (passed : places image k label ≡ passes) where
    places-rest : in_order (takes_bytes label ∷ no_record image k ∷ []) ≡ passes
    places-rest = order-rest (over_image image) (takes_bytes label ∷ no_record image k ∷ []) passed

    pub stored-taken : takes_bytes label ≡ passes
    stored-taken = order-first (takes_bytes label) (no_record image k ∷ []) places-rest

    pub stored-inside : 96 * k + 96 ≤ length image
    stored-inside =
        number-inside image k
        (order-first (no_record image k) [] (order-rest (takes_bytes label) (no_record image k ∷ []) places-rest))

    -- 7 decides
    label-decides : (form : Form) → takes_writing image k form label ≡ no_label form label
    unfolding takes_writing
    label-decides form =
        order-passed (over_image image ∷ takes_bytes label ∷ no_record image k ∷ []) (no_label form label ∷ []) passed ∙ order-one (no_label form label)

-- ---- 7: n is the index of the label's first ill-formed subpart

module _ (form : Form) (label : List ℕ) {n : ℕ} (found : n ≡ first_ill label) where
  label-ill : n < length label → no_label form label ≡ refuses 7 8
  unfolding no_label
  label-ill h = simp (ne_eqb (ill_text label) 0 (λ e. omega (arith, first-ill-none encodes8 label e)))

  label-formed : length label ≤ n → no_label form label ≡ too_many (stored form label)
  unfolding no_label too_many
  label-formed h = simp (eq-eqb (ill_text label) 0 (first-ill-end encodes8 label (omega arith)))

-- ---- the call's returns

module _ (image : List ℕ) (k object berth : ℕ) (form : Form) (label : List ℕ) where
  -- v is what the checks 1, 1 and 6 said
  pub writes-refused : {v : Result (Unit {0}) Refusal} {r : Refusal} → checked v ≡ places image k label → v ≡ Err r
      → Writes image k object berth form label (Err r) image
  unfolding takes_writing
  writes-refused e q =
      let p = order-refused (over_image image ∷ takes_bytes label ∷ no_record image k ∷ []) (no_label form label ∷ []) (sym e ∙ ap checked q) in
      record { answers = rw p; leaves = rw p }

  module _ (passed : places image k label ≡ passes) {n : ℕ} (found : n ≡ first_ill label) where
    pub writes-ill : n < length label → Writes image k object berth form label (Err (BadLayout 8)) image
    writes-ill h =
        let p = label-decides image k label passed form ∙ label-ill form label found h in
        record { answers = rw p; leaves = rw p }

    -- the bytes to be stored were stored, or refused
    writes-stored : length label ≤ n → {bytes : List ℕ} → stored form label ≡ bytes → (r : Result (Unit {0}) Refusal) {image' : List ℕ}
        → Stores image k object berth bytes r image' → Writes image k object berth form label r image'
    writes-stored h e r s =
        let p = label-decides image k label passed form ∙ label-formed form label found h in
        record { answers = rw (p, e) s.answers; leaves = rw (p, e) s.leaves }

    pub writes-given : length label ≤ n → form ≡ AsGiven → (r : Result (Unit {0}) Refusal) {image' : List ℕ}
        → Stores image k object berth label r image' → Writes image k object berth form label r image'
    writes-given h e r s = writes-stored h (ap (λ (f : Form). stored f label) e) r s

    pub writes-joined : length label ≤ n → form ≡ Joined → (r : Result (Unit {0}) Refusal) {image' : List ℕ}
        → Stores image k object berth (mended label) r image' → Writes image k object berth form label r image'
    writes-joined h e r s = writes-stored h (ap (λ (f : Form). stored f label) e) r s
