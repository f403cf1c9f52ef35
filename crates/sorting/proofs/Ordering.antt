-- The loop that puts all records in their places, and what the call promises.
--
-- In order: what the loop has made (`ordered-begin`, `ordered-size`, `ordered-search`,
-- `ordered-more`, `ordered_end`); the ways in which the call returns (`records-taken`,
-- `records-count`, `orders-room`, `orders-done`, `orders-refused`); ANY TWO RESULTS
-- ARE EQUAL (`orders-unique`); A CALL THAT IS DONE LEAVES THE ORDER (`call-order`) AND COUNTS THE
-- RECORDS (`call-count`).
use mathlib.Core.Path.{◌≡◌, refl, sym, ◌∙◌, ap}
use mathlib.Core.List.{List, ◌∷◌, ◌++◌, append_assoc}
use Prim.Native.Nat.{ℕ, suc, ◌+◌, ◌-◌, ◌≤◌, ◌<◌}
use native.Mathlib.Numerals.{add-one}
use native.Mathlib.Omega.{arith}
use lib.ListN.{length, take, drop, length-append, length-drop}
use lib.Seq.{take_at, drop-append-add, drop-drop}
use Rattle.std.specs.Prelude.{Result, Ok, Err}
use Rattle.laws.specs.Writing.{front}
use Rattle.answers.specs.Checks.{Check, passes, refuses, no_room}
use Rattle.answers.specs.Answers.{checked}
use Rattle.answers.specs.Verdicts.{Verdict, done, verdict, Fills}
use Rattle.answers.specs.declared.refusal.Refusal.{Refusal}
use Rattle.answers.proofs.Verdicts.{done-not-refused, refused-lacking, filled-whole, fills-unique, fills-done, fills-front}
use Rattle.labels.specs.Images.{count_of, takes_image, bad_record, judged_as, named_by, Judges}
use Rattle.labels.specs.declared.image.ImageRefusal.{ImageRefusal}
use Rattle.labels.specs.declared.image.ImageRefusal.TheVariants.{Refused, BadRecord}
use Rattle.labels.proofs.Calls.{judged-injective}
use Rattle.sorting.specs.Sorting.{standing, Sorted, sorted_by, order_of, Orders}
use Rattle.sorting.specs.Inner.{PlaceFound, Inserted}
use Rattle.sorting.proofs.Standing.{standing-strict}
use Rattle.sorting.proofs.Sorted.{ordered-next, ordered-none, ordered-length, ordered-sorted, order-length}
use Rattle.sorting.proofs.Placing.{place_found}

-- ---- what the loop has made: the first n are in their places, and the rest of the buffer is as it
-- was

module _ (image out₀ : List ℕ) where
  pub ordered-begin : out₀ ≡ front (sorted_by (standing image) 0) out₀
  ordered-begin = rw (ordered-none (standing image))

  module _ {n : ℕ} {out : List ℕ} (room : n ≤ length out₀) (made : out ≡ front (sorted_by (standing image) n) out₀) where
    first_made : take n out ≡ sorted_by (standing image) n
    first_made = ap (take n) made ∙ take_at (sorted_by (standing image) n) _ n (ordered-length (standing image) n)

    pub ordered-size : length out ≡ length out₀
    ordered-size =
        ap length made
        ∙ simp (length-append, length-drop) (omega (arith, ordered-length (standing image) n))

    pub ordered-search : Sorted (standing image) (take n out)
    ordered-search = rw first_made (ordered-sorted (standing image) (standing-strict image) n)

    after-made : drop (suc n) out ≡ drop (suc n) out₀
    after-made =
        let size : length (sorted_by (standing image) n) ≡ n = ordered-length (standing image) n in
        let one : suc n ≡ length (sorted_by (standing image) n) + 1 = omega arith in
        rw (one, made) (drop-append-add (sorted_by (standing image) n) (drop (length (sorted_by (standing image) n)) out₀) 1
        ∙ drop-drop 1 (length (sorted_by (standing image) n)) out₀)

    -- one more, put in its place
    pub ordered-more : {at : ℕ} {out' : List ℕ} → PlaceFound image (take n out) n at → Inserted out n at n out'
        → out' ≡ front (sorted_by (standing image) (n + 1)) out₀
    ordered-more {at} {out'} p i =
        let inside : n ≤ length out = omega (arith, ordered-size) in
        let next : sorted_by (standing image) (suc n) ≡ take at out ++ (n ∷ take (n - at) (drop at out)) =
        ordered-next (standing image) n ∙ rw first_made at (place_found out n inside p) in
        rw (add-one, ordered-length (standing image) (suc n), next)
        (i.holds ∙ rw (append_assoc, after-made))

-- all of them
pub ordered_end : (image out₀ : List ℕ) {n : ℕ} {out : List ℕ} → out ≡ front (sorted_by (standing image) n) out₀ → n ≡ count_of image
    → out ≡ front (order_of image) out₀
ordered_end image out₀ made e = rw e at made

-- ---- the returns

refused-fills : {A : Type 0} (check : Check) (whole out : List A) (value : ℕ) {answer : Verdict ℕ} → answer ≡ verdict check value
    → ((n : ℕ) → answer ≡ done n → ⊥) → Fills check whole value out answer out
refused-fills passes whole out value e h = absurd (h value e)
refused-fills (refuses number place) whole out value e h = record { answers = e; leaves = refl }

-- an image that was judged good has as many records as the answer says
told : (check : Check) {count records : ℕ} → done count ≡ verdict check records → (check ≡ passes) × (count ≡ records)
told passes e = (refl, cc)
told (refuses number place) e = absurd (done-not-refused e)

-- an image that is refused is not done
not-done : (refusal : ImageRefusal) {n : ℕ} → judged_as (Err refusal) ≡ done n → ⊥
not-done (Refused r) e = done-not-refused (sym e)
not-done (BadRecord number byte) e = done-not-refused (sym e)

module _ (image : List ℕ) {judged : Result ℕ ImageRefusal} (j : Judges image judged) where
  module _ {count : ℕ} (records : judged ≡ Ok count) where
    answered : done count ≡ verdict (takes_image image) (count_of image)
    answered = rw records at j.answers

    pub records-taken : takes_image image ≡ passes
    records-taken = (told (takes_image image) answered).0

    pub records-count : count ≡ count_of image
    records-count = (told (takes_image image) answered).1

    none_named : named_by (Ok count) ≡ bad_record image
    none_named = rw records at j.names

    -- v is what the check of the room said
    pub orders-room : (out : List ℕ) {v : Result (Unit {0}) Refusal} → checked v ≡ no_room (length out) count → {refusal : Refusal} → v ≡ Err refusal
        → Orders image out (Err (Refused refusal)) out
    orders-room out found q = record {
      fills = refused-lacking records-taken (sym (found ∙ ap (no_room (length out)) (records-count ∙ sym (order-length image))) ∙ ap checked q);
      names = none_named;
    }

    pub orders-done : (out : List ℕ) → count ≤ length out → {out' : List ℕ} → out' ≡ front (order_of image) out → Orders image out (Ok count) out'
    orders-done out h e = record {
      fills = rw records-count (filled-whole records-taken (omega (arith, order-length image, records-count)) e);
      names = none_named;
    }

  -- refused before room is asked for
  as-judged : (out : List ℕ) → ((n : ℕ) → judged_as judged ≡ done n → ⊥) → Orders image out judged out
  as-judged out h = record { fills = refused-fills (takes_image image) (order_of image) out (count_of image) j.answers h; names = j.names }

  pub orders-refused : (out : List ℕ) {refusal : ImageRefusal} → judged ≡ Err refusal → Orders image out (Err refusal) out
  orders-refused out {refusal} e = rw e at (as-judged out (λ n q. not-done refusal (sym (ap judged_as e) ∙ q)))

-- ---- ANY TWO RESULTS ARE EQUAL: one answer, and one buffer afterwards
pub orders-unique : (image out : List ℕ) {r s : Result ℕ ImageRefusal} {o p : List ℕ} → Orders image out r o → Orders image out s p → (r ≡ s) × (o ≡ p)
orders-unique image out f g =
    let h = fills-unique f.fills g.fills in
    (judged-injective _ _ h.0 (f.names ∙ sym g.names), h.1)

-- ---- A CALL THAT IS DONE LEAVES THE ORDER
pub call-order : (image out : List ℕ) {n : ℕ} {out' : List ℕ} → Orders image out (Ok n) out' → take n out' ≡ order_of image
call-order image out f = fills-front f.fills ((fills-done f.fills).1 ∙ sym (order-length image))

-- and answers how many records there are
pub call-count : (image out : List ℕ) {n : ℕ} {out' : List ℕ} → Orders image out (Ok n) out' → n ≡ count_of image
call-count image out f = (fills-done f.fills).1
