-- What the calls of the label file promise, from their contracts: `Finds` for one record, `Judges`
-- for a whole image, `Writes` for writing.
--
-- In order: ANY TWO RESULTS ARE EQUAL (`finds-unique`, `judged-injective`, `judges-unique`,
-- `writes-unique`); the checks of an image depend on its length only (`same_over`,
-- `same_number`); what a writing that passes its checks says; A WRITTEN RECORD IS READ AGAIN
-- (`read-written`); A RECORD THAT WAS READ AND IS WRITTEN AGAIN CHANGES NOTHING (`written_back`);
-- THE OTHER RECORDS ARE KEPT (`writes-length`, `others-kept`); two spellings of one text are stored
-- as the same bytes (`stored_same`).
use mathlib.Core.Path.{◌≡◌, refl, sym, ◌∙◌, ap}
use mathlib.Core.Bool.{true, ◌&&◌}
use mathlib.Core.List.{List, [], ◌∷◌}
use Prim.Native.Nat.{ℕ, ◌+◌, ◌*◌, ◌^◌, ◌≤◌, ◌<◌}
use native.Mathlib.Omega.{arith}
use lib.Dec.{leb, eqb}
use lib.ListN.{length, take, drop, take-append-drop}
use borrow.Author.Tests.{leb-true, le-leb, eqb-true, eq-eqb}
use Rattle.std.specs.Prelude.{Result, Ok, Err}
use Rattle.laws.specs.Lists.{All}
use Rattle.laws.specs.Writing.{front}
use Rattle.laws.proofs.Bools.{and_left, and_right}
use Rattle.laws.proofs.Lists.{all_left, all_right}
use Rattle.answers.specs.Checks.{Check, passes, refuses, in_order, takes_bytes}
use Rattle.answers.specs.declared.refusal.Refusal.{Refusal}
use Rattle.answers.proofs.Answers.{refused_by-injective, answered-injective, checked-injective}
use Rattle.answers.proofs.Checks.{units-taken}
use Rattle.answers.proofs.Verdicts.{filled-whole, fills-unique, fills-done, fills-front}
use Rattle.answers.proofs.Orders.{order-first, order-rest, passes-true}
use Rattle.letters.specs.Syllables.{full_parts}
use Rattle.utf8.specs.Utf8.{read_text, ill_text}
use Rattle.utf8.proofs.Round.{encodes8}
use Rattle.mending.proofs.Round.{mended-ills}
use Rattle.mending.proofs.Same.{same-mended}
use Rattle.labels.specs.Records.{record_of, object_of, berth_of, label_of, entry_of}
use Rattle.labels.specs.Images.{record_at, replaced, over_image, no_record, takes_record, Finds, judged_as, named_by, Judges, stored, no_label, takes_writing, changed, Writes}
use Rattle.labels.specs.declared.record.Entry.{Entry}
use Rattle.labels.specs.declared.image.ImageRefusal.{ImageRefusal}
use Rattle.labels.specs.declared.image.ImageRefusal.TheVariants.{Refused, BadRecord}
use Rattle.labels.specs.declared.write.Form.{Form}
use Rattle.labels.specs.declared.write.Form.TheVariants.{AsGiven, Joined}
use Rattle.labels.proofs.Records.{record-length, record-object, record-berth, record-size, record-label}
use Rattle.labels.proofs.Layouts.{layout-good, written-passes, record-back}
use Rattle.labels.proofs.Images.{at_length, replaced-length, replaced-here, replaced-other, replaced-same, number-inside}
use Rattle.labels.proofs.Finding.{taken-inside, taken-layout, taken-short, taken-size, taken-over, taken-number}

-- ---- ANY TWO RESULTS ARE EQUAL

-- reading one record: one answer, and one buffer afterwards
pub finds-unique : (image : List ℕ) (k : ℕ) (out : List ℕ) {r s : Result Entry Refusal} {o p : List ℕ} → Finds image k out r o → Finds image k out s p
    → (r ≡ s) × (o ≡ p)
finds-unique image k out f g =
    let h = fills-unique f.fills g.fills in
    (answered-injective _ _ h.0, h.1)

abbrev refused_image : Refusal → Result ℕ ImageRefusal
refused_image r = Err (Refused r)

-- an answer about a whole image is known by its verdict and the record that it names
pub judged-injective : (a b : Result ℕ ImageRefusal) → judged_as a ≡ judged_as b → named_by a ≡ named_by b → a ≡ b
judged-injective (Ok m) (Ok n) e q = cc
judged-injective (Ok m) (Err (Refused s)) e q = cc
judged-injective (Ok m) (Err (BadRecord k b)) e q = cc
judged-injective (Err (Refused r)) (Ok n) e q = cc
judged-injective (Err (Refused r)) (Err (Refused s)) e q = ap refused_image (refused_by-injective r s e)
judged-injective (Err (Refused r)) (Err (BadRecord k b)) e q = cc
judged-injective (Err (BadRecord k b)) (Ok n) e q = cc
judged-injective (Err (BadRecord k b)) (Err (Refused s)) e q = cc
judged-injective (Err (BadRecord k b)) (Err (BadRecord j c)) e q = cc

-- reading a whole image: one answer
pub judges-unique : (image : List ℕ) {r s : Result ℕ ImageRefusal} → Judges image r → Judges image s → r ≡ s
judges-unique image f g = judged-injective _ _ (f.answers ∙ sym g.answers) (f.names ∙ sym g.names)

-- writing: one answer, and one image afterwards
pub writes-unique : (image : List ℕ) (k object berth : ℕ) (form : Form) (label : List ℕ) {r s : Result (Unit {0}) Refusal} {x y : List ℕ}
    → Writes image k object berth form label r x → Writes image k object berth form label s y → (r ≡ s) × (x ≡ y)
writes-unique image k object berth form label f g =
    (checked-injective _ _ (f.answers ∙ sym g.answers), f.leaves ∙ sym g.leaves)

-- ---- what is checked of an image goes by its length

same_over : (image image' : List ℕ) → length image' ≡ length image → over_image image' ≡ over_image image
unfolding over_image
same_over image image' e = rw e

same_number : (image image' : List ℕ) (k : ℕ) → length image' ≡ length image → no_record image' k ≡ no_record image k
unfolding no_record
same_number image image' k e = rw e

-- ---- what writing that passes its checks says

module _ (image : List ℕ) (k : ℕ) (form : Form) (label : List ℕ) (passed : takes_writing image k form label ≡ passes) where
  writing-first : over_image image ≡ passes
  unfolding takes_writing
  writing-first = order-first (over_image image) (takes_bytes label ∷ no_record image k ∷ no_label form label ∷ []) passed

  writing-second : in_order (takes_bytes label ∷ no_record image k ∷ no_label form label ∷ []) ≡ passes
  unfolding takes_writing
  writing-second = order-rest (over_image image) (takes_bytes label ∷ no_record image k ∷ no_label form label ∷ []) passed

  writing-third : in_order (no_record image k ∷ no_label form label ∷ []) ≡ passes
  writing-third = order-rest (takes_bytes label) (no_record image k ∷ no_label form label ∷ []) writing-second

  writing-number : no_record image k ≡ passes
  writing-number = order-first (no_record image k) (no_label form label ∷ []) writing-third

  writing-inside : 96 * k + 96 ≤ length image
  writing-inside = number-inside image k writing-number

  writing-both : eqb (ill_text label) 0 && leb (length (stored form label)) 88 ≡ true
  unfolding no_label
  writing-both =
      passes-true (eqb (ill_text label) 0 && leb (length (stored form label)) 88) 7 8
      (order-first (no_label form label) [] (order-rest (no_record image k) (no_label form label ∷ []) writing-third))

  writing-formed : ill_text label ≡ 0
  writing-formed = eqb-true (ill_text label) 0 (and_left (eqb (ill_text label) 0) (leb (length (stored form label)) 88) writing-both)

  writing-short : length (stored form label) ≤ 88
  writing-short =
      leb-true (length (stored form label)) 88 (and_right (eqb (ill_text label) 0) (leb (length (stored form label)) 88) writing-both)

-- what is stored of a well-formed label is well-formed
stored-formed : (form : Form) (label : List ℕ) → ill_text label ≡ 0 → ill_text (stored form label) ≡ 0
stored-formed AsGiven label e = e
stored-formed Joined label e = mended-ills encodes8 label

-- ---- A WRITTEN RECORD IS READ AGAIN

module _ (image : List ℕ) (k object berth : ℕ) (form : Form) (label : List ℕ) {image' : List ℕ}
    (w : Writes image k object berth form label (Ok tt) image') where
  done-passed : takes_writing image k form label ≡ passes
  done-passed = sym w.answers

  done-image : image' ≡ replaced image k (record_of object berth (stored form label))
  done-image =
      w.leaves ∙ ap (λ (c : Check). changed c image (replaced image k (record_of object berth (stored form label)))) done-passed

  done-size : length (record_of object berth (stored form label)) ≡ 96
  done-size = record-length object berth (stored form label) (writing-short image k form label done-passed)

  done-length : length image' ≡ length image
  done-length = ap length done-image ∙ replaced-length image k (writing-inside image k form label done-passed) _ done-size

  done-record : record_at image' k ≡ record_of object berth (stored form label)
  done-record =
      ap (λ (l : List ℕ). record_at l k) done-image ∙ replaced-here image k (writing-inside image k form label done-passed) _ done-size

  done-taken : takes_record image' k ≡ passes
  unfolding takes_record
  done-taken =
      let short = writing-short image k form label done-passed in
      let formed = stored-formed form label (writing-formed image k form label done-passed) in
      simp (
        same_over image image' done-length ∙ writing-first image k form label done-passed,
        same_number image image' k done-length ∙ writing-number image k form label done-passed,
        done-record,
        written-passes object berth (stored form label) short formed,
      )

  done-label : label_of (record_at image' k) ≡ stored form label
  done-label = ap label_of done-record ∙ record-label object berth (stored form label)

  done-entry : object < 2 ^ 32 → berth < 2 ^ 16
      → entry_of (record_at image' k) ≡ record { object = object; berth = berth; length = length (stored form label) }
  done-entry h b =
      ap entry_of done-record
      ∙ rw (
        record-object object berth (stored form label) h,
        record-berth object berth (stored form label) b,
        record-size object berth (stored form label),
      )

  -- after a writing that is done, reading that record gives the object, the berth and the length of
  -- what was stored, and fills the buffer with it if there is room (88 bytes are always enough)
  pub read-written : object < 2 ^ 32 → berth < 2 ^ 16 → (out : List ℕ) → length (stored form label) ≤ length out → {r : Result Entry Refusal} {out' : List ℕ}
      → Finds image' k out r out'
      → (r ≡ Ok (record { object = object; berth = berth; length = length (stored form label) })) × (out' ≡ front (stored form label) out)
  read-written h b out room f =
      let g : Finds image' k out (Ok (entry_of (record_at image' k))) (front (label_of (record_at image' k)) out) =
      record { fills = filled-whole done-taken (rw done-label room) refl } in
      let u = finds-unique image' k out f g in
      (u.0 ∙ ap Ok (done-entry h b), u.1 ∙ ap (λ (l : List ℕ). front l out) done-label)

-- ---- A RECORD THAT WAS READ AND IS WRITTEN AGAIN CHANGES NOTHING

-- a good record of an image, written over itself
module _ (image : List ℕ) (k : ℕ) (all : All (λ b. b < 256) image) (taken : takes_record image k ≡ passes) where
  back-bytes : All (λ b. b < 256) (record_at image k)
  unfolding record_at
  back-bytes =
      all_left (take 96 (drop (96 * k) image)) (drop 96 (drop (96 * k) image))
      (rw take-append-drop (all_right (take (96 * k) image) (drop (96 * k) image) (rw take-append-drop all)))

  back-record : record_of (object_of (record_at image k)) (berth_of (record_at image k)) (label_of (record_at image k)) ≡ record_at image k
  back-record = record-back (record_at image k) (at_length image k (taken-inside image k taken)) back-bytes (taken-layout image k taken)

  back-short : length (label_of (record_at image k)) ≤ 88
  back-short = omega (arith, taken-size image k taken, taken-short image k taken)

  back-formed : ill_text (label_of (record_at image k)) ≡ 0
  back-formed = (layout-good (record_at image k) (at_length image k (taken-inside image k taken)) (taken-layout image k taken)).formed

  back_passes : takes_writing image k AsGiven (label_of (record_at image k)) ≡ passes
  unfolding takes_writing no_label
  back_passes =
      simp (
        taken-over image k taken,
        taken-number image k taken,
        units-taken (label_of (record_at image k)) (omega (arith, back-short)),
        eq-eqb (ill_text (label_of (record_at image k))) 0 back-formed,
        le-leb (length (label_of (record_at image k))) 88 back-short,
      )

  back-image : replaced image k (record_of (object_of (record_at image k)) (berth_of (record_at image k)) (label_of (record_at image k))) ≡ image
  back-image = ap (replaced image k) back-record ∙ replaced-same image k (taken-inside image k taken)

  back-writes : {q : Result (Unit {0}) Refusal} {image' : List ℕ}
      → Writes image k (object_of (record_at image k)) (berth_of (record_at image k)) AsGiven (label_of (record_at image k)) q image'
      → (q ≡ (Ok tt)) × (image' ≡ image)
  back-writes {q} w = (
    checked-injective q (Ok tt) (w.answers ∙ back_passes),
    w.leaves
        ∙ ap
        (λ (c : Check).
        changed c image (replaced image k (record_of (object_of (record_at image k)) (berth_of (record_at image k)) (label_of (record_at image k)))))
        back_passes
        ∙ back-image,
  )

-- the object, the berth and the label that reading gave, written as given, are taken and leave the
-- image as it was
pub written_back : (image : List ℕ) (k : ℕ) (out : List ℕ) {e : Entry} {out' : List ℕ} → All (λ b. b < 256) image → Finds image k out (Ok e) out'
    → {q : Result (Unit {0}) Refusal} {image' : List ℕ} → Writes image k e.object e.berth AsGiven (take e.length out') q image'
    → (q ≡ (Ok tt)) × (image' ≡ image)
written_back image k out {e} {out'} all f w =
    let d = fills-done f.fills in
    let label : take e.length out' ≡ label_of (record_at image k) =
    fills-front f.fills (ap (λ (x : Entry). x.length) d.1 ∙ sym (taken-size image k d.0)) in
    back-writes image k all d.0 (rw (label, d.1) at w)

-- ---- THE OTHER RECORDS ARE KEPT

module _ (image : List ℕ) (k object berth : ℕ) (form : Form) (label : List ℕ) where
  length-by : (c : Check) → takes_writing image k form label ≡ c
      → length (changed c image (replaced image k (record_of object berth (stored form label)))) ≡ length image
  length-by passes e =
      replaced-length image k (writing-inside image k form label e) (record_of object berth (stored form label))
      (record-length object berth (stored form label) (writing-short image k form label e))
  length-by (refuses number place) e = refl

  others_by : (j : ℕ) → (j ≡ k → ⊥) → (c : Check) → takes_writing image k form label ≡ c
      → record_at (changed c image (replaced image k (record_of object berth (stored form label)))) j ≡ record_at image j
  others_by j h passes e =
      replaced-other image k (writing-inside image k form label e) (record_of object berth (stored form label))
      (record-length object berth (stored form label) (writing-short image k form label e)) j h
  others_by j h (refuses number place) e = refl

  module _ {r : Result (Unit {0}) Refusal} {image' : List ℕ} (w : Writes image k object berth form label r image') where
    -- writing, done or refused, leaves the image as long as it was
    pub writes-length : length image' ≡ length image
    writes-length = ap length w.leaves ∙ length-by (takes_writing image k form label) refl

    -- and every other record as it was
    pub others-kept : (j : ℕ) → (j ≡ k → ⊥) → record_at image' j ≡ record_at image j
    others-kept j h = ap (λ (l : List ℕ). record_at l j) w.leaves ∙ others_by j h (takes_writing image k form label) refl

-- ---- two labels that read as texts with the same full parts, two spellings of one boat, are
-- stored joined as the same bytes
pub stored_same : (s t : List ℕ) → full_parts (read_text s) ≡ full_parts (read_text t) → stored Joined s ≡ stored Joined t
stored_same s t e = (same-mended encodes8 s t).1 e
