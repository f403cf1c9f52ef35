-- All lines together, and what printing promises, from its contract.
--
-- It has: a list with one of its numbers left out (`Out`); a list of n numbers that has every
-- number below n has each once, so its lines are together as long as those of the numbers from 0 on
-- (`counted-size`); HOW LONG THE LINES ARE AT MOST (`printed-most`, `image-printed-most`), and that
-- 682 records need just that many bytes (`printed-full`); what the answer of `order` says
-- (`order-refused`, `order-bad`), and what the numbers are that it leaves (`numbers-order`,
-- `numbers-short`, `numbers-most`, `numbers-inside`); the returns of printing, one law each
-- (`prints-refused`, `prints-lacking`, `prints-done`); ANY TWO RESULTS ARE EQUAL
-- (`prints-unique`); A BUFFER OF 2,618 BYTES IS NEVER TOO SHORT (`prints-enough`).
--
-- That the order is right and how many numbers it has are premises here.
use mathlib.Core.Path.{◌≡◌, refl, sym, ◌∙◌, ap}
use mathlib.Core.List.{List, [], ◌∷◌}
use Prim.Native.Nat.{ℕ, zero, suc, ◌+◌, ◌-◌, ◌*◌, ◌≤◌, ◌<◌}
use native.Mathlib.Nat.{suc-add}
use native.Mathlib.Omega.{arith}
use lib.Dec.{ltb}
use lib.ListN.{length, take, drop, length-append}
use borrow.Author.Tests.{ltb-true, ltb-false}
use Rattle.std.specs.Prelude.{Result, Ok, Err}
use Rattle.laws.specs.Lists.{each}
use Rattle.laws.specs.Writing.{front, Fronts}
use Rattle.laws.proofs.Bools.{test}
use Rattle.laws.proofs.Lists.{each-cons}
use Rattle.answers.specs.Checks.{Check, passes, refuses, no_room}
use Rattle.answers.specs.Verdicts.{done, refused, verdict, fits}
use Rattle.answers.specs.Answers.{told, checked}
use Rattle.answers.specs.declared.refusal.Refusal.{Refusal}
use Rattle.answers.proofs.Checks.{no-room-passes, no-room-kept}
use Rattle.answers.proofs.Verdicts.{checks-passed, refused-before, refused-lacking, filled-whole, fills-unique, fills-done, fills-front, done-not-refused}
use Rattle.std.specs.declared.cmp.Ordering.{Ordering}
use Rattle.labels.specs.Images.{count_of, takes_image, judged_as, named_by}
use Rattle.labels.specs.declared.image.ImageRefusal.{ImageRefusal}
use Rattle.labels.specs.declared.image.ImageRefusal.TheVariants.{Refused, BadRecord}
use Rattle.labels.proofs.Images.{taken-short, taken-count}
use Rattle.labels.proofs.Calls.{judged-injective}
use Rattle.sorting.specs.Sorting.{standing, Member, here, there, InOrder, order_of, Orders}
use Rattle.sorting.specs.Decimals.{digits_within, decimal_of}
use Rattle.sorting.specs.Printing.{number_line, printed, Prints}
use Rattle.sorting.proofs.NumberLines.{line-long, line-most}

-- ---- a list with one of its numbers left out

-- y is x with one k left out
pub data Out (k : ℕ) : List ℕ → List ℕ → Type 0 where
  first : {x : List ℕ} → Out k (k ∷ x) x
  later : {j : ℕ} {x y : List ℕ} → Out k x y → Out k (j ∷ x) (j ∷ y)

record Rest (k : ℕ) (x : List ℕ) : Type 0 where
  rest : List ℕ
  out : Out k x rest

rest_more : {k j : ℕ} {x : List ℕ} → Rest k x → Rest k (j ∷ x)
rest_more {j = j} r = record { rest = j ∷ r.rest; out = later r.out }

-- a number that is there can be left out
member-rest : {k : ℕ} {x : List ℕ} → Member k x → Rest k x
member-rest (here {x = x}) = record { rest = x; out = first }
member-rest (there m) = rest_more (member-rest m)

out-length : {k : ℕ} {x y : List ℕ} → Out k x y → length x ≡ suc (length y)
out-length first = refl
out-length (later o) = ap suc (out-length o)

-- the others are still there
out-member : {k j : ℕ} {x y : List ℕ} → Out k x y → (j ≡ k → ⊥) → Member j x → Member j y
out-member first h here = absurd (h refl)
out-member first h (there m) = m
out-member (later o) h here = here
out-member (later o) h (there m) = there (out-member o h m)

out-size : (f : ℕ → List ℕ) {k : ℕ} {x y : List ℕ} → Out k x y → length (each f x) ≡ length (f k) + length (each f y)
out-size f {k = k} (first {x = x}) = ap length (each-cons f k x) ∙ length-append (f k) (each f x)
out-size f {k = k} (later {j = j} {x = x} {y = y} o) =
    omega (
      arith,
      ap length (each-cons f j x) ∙ length-append (f j) (each f x),
      ap length (each-cons f j y) ∙ length-append (f j) (each f y),
      out-size f o,
    )

-- ---- each number once

-- the numbers below n
unfoldable pub below : ℕ → List ℕ
below zero = []
below (suc n) = n ∷ below n

no_length : (x : List ℕ) → length x ≡ 0 → x ≡ []
no_length [] e = refl
no_length (k ∷ x) e = absurd (omega arith)

-- every number below n is there, and there are n: then the lines are as long together as those of
-- the numbers below n
pub counted-size : (f : ℕ → List ℕ) (n : ℕ) (x : List ℕ) → ((k : ℕ) → k < n → Member k x) → length x ≡ n
    → length (each f x) ≡ length (each f (below n))
unfolding below
counted-size f zero x all e = ap (λ (l : List ℕ). length (each f l)) (no_length x e)
counted-size f (suc n) x all e =
    by (member-rest (all n (omega arith)))
    (λ y o. counted-size f n y (λ k h. out-member o (λ q. omega arith) (all k (omega arith))) (omega (arith, e, out-length o)))
  where
    by : Rest n x → ((y : List ℕ) → Out n x y → length (each f y) ≡ length (each f (below n))) → length (each f x) ≡ length (each f (n ∷ below n))
    by r tail =
        omega (
          arith,
          out-size f r.out,
          tail r.rest r.out,
          ap length (each-cons f n (below n)) ∙ length-append (f n) (each f (below n)),
        )

-- ---- HOW LONG THE LINES ARE AT MOST

below-size : (n : ℕ) → length (each number_line (below (suc n))) ≡ length (number_line n) + length (each number_line (below n))
unfolding below
below-size n = ap length (each-cons number_line n (below n)) ∙ length-append (number_line n) (each number_line (below n))

-- 10 lines of 2 bytes and 90 of 3
below-hundred : length (each number_line (below 100)) ≡ 290
unfolding below each number_line decimal_of digits_within
below-hundred = refl

-- and then 900 of 4
below_more : (m : ℕ) → m ≤ 900 → length (each number_line (below (m + 100))) ≡ 290 + 4 * m
below_more zero h = below-hundred
below_more (suc m) h =
    rw (suc-add m 100)
    (omega (arith, below-size (m + 100), line-long 2 (m + 100) (omega arith) (omega arith), below_more m (omega arith)))

below-short : (n : ℕ) → n ≤ 1000 → length (each number_line (below n)) ≤ 4 * n
unfolding below each
below-short zero h = omega arith
below-short (suc n) h = omega (arith, below-size n, line-most 2 n (omega arith), below-short n (omega arith))

pub below-most : (n : ℕ) → n ≤ 682 → length (each number_line (below n)) ≤ 2618
below-most n most = test (ltb n 100) (λ q. omega (arith, ltb-true n 100 q, below-short n (omega arith))) (λ q. long (ltb-false n 100 q))
  where
    long : 100 ≤ n → length (each number_line (below n)) ≤ 2618
    long h =
        let m : n ≡ n - 100 + 100 = omega arith in
        omega (arith, ap (λ (k : ℕ). length (each number_line (below k))) m ∙ below_more (n - 100) (omega arith))

-- at most 682 numbers in order, each once
pub printed-most : {stands : ℕ → ℕ → Ordering} {n : ℕ} {x : List ℕ} → InOrder stands n x → length x ≡ n → n ≤ 682 → length (each number_line x) ≤ 2618
printed-most {n = n} {x = x} good sized most = omega (arith, counted-size number_line n x good.all sized, below-most n most)

-- and 682 of them are printed in just that many bytes
pub printed-full : {stands : ℕ → ℕ → Ordering} {n : ℕ} {x : List ℕ} → InOrder stands n x → length x ≡ n → n ≡ 682 → length (each number_line x) ≡ 2618
printed-full {n = n} {x = x} good sized full =
    counted-size number_line n x good.all sized ∙ ap (λ (k : ℕ). length (each number_line (below k))) full ∙ below_more 582 (omega arith)

-- so of an image within its limit
pub image-printed-most : (image : List ℕ) → length image ≤ 65472 → InOrder (standing image) (count_of image) (order_of image)
    → length (order_of image) ≡ count_of image → length (printed image) ≤ 2618
unfolding printed
image-printed-most image h good sized = printed-most good sized (omega arith)

-- ---- what the answer of `order` says

-- if a call has room whenever its checks pass, and is refused, its checks refuse it
refused-by : (check : Check) (whole out : List ℕ) (value : ℕ) {number place : ℕ} → (check ≡ passes → length whole ≤ length out)
    → refused number place ≡ verdict (fits check whole out) value → check ≡ refuses number place
refused-by passes whole out value room e = absurd (done-not-refused (sym (simp (no-room-passes (length out) (length whole) (room refl)) at e)))
refused-by (refuses a b) whole out value room e = cc

module _ (image : List ℕ) (sized : length (order_of image) ≡ count_of image) {numbers numbers' : List ℕ} {r : Result ℕ ImageRefusal} (room : 682 ≤ length numbers)
    (o : Orders image numbers r numbers') where
  order-room : takes_image image ≡ passes → length (order_of image) ≤ length numbers
  order-room e = omega (arith, taken-count image e)

  order-refused : {s : Refusal} → r ≡ Err (Refused s) → takes_image image ≡ refuses (told s).number (told s).place
  order-refused e = refused-by (takes_image image) (order_of image) numbers (count_of image) order-room (sym (ap judged_as e) ∙ o.fills.answers)

  order-bad : {k byte : ℕ} → r ≡ Err (BadRecord k byte) → takes_image image ≡ refuses 7 byte
  order-bad e = refused-by (takes_image image) (order_of image) numbers (count_of image) order-room (sym (ap judged_as e) ∙ o.fills.answers)

  module _ {n : ℕ} (e : r ≡ Ok n) where
    order-done : (takes_image image ≡ passes) × (n ≡ count_of image) × (numbers' ≡ front (order_of image) numbers)
    order-done = fills-done (rw e at o.fills)

    -- the first n numbers are the order
    pub numbers-order : take n numbers' ≡ order_of image
    numbers-order = fills-front (rw e at o.fills) (order-done.1 ∙ sym sized)

    -- and their lines are at most 2,618 bytes
    pub numbers-short : InOrder (standing image) (count_of image) (order_of image) → length (each number_line (take n numbers')) ≤ 2618
    unfolding printed
    numbers-short good = rw numbers-order (image-printed-most image (taken-short image order-done.0) good sized)

    pub numbers-most : n ≤ 682
    numbers-most = omega (arith, taken-count image order-done.0, order-done.1)

    pub numbers-inside : n ≤ length numbers'
    numbers-inside =
        omega (
          arith,
          order-done.1,
          ap length order-done.2 ∙ length-append (order_of image) (drop (length (order_of image)) numbers),
        )

  -- ---- the returns of printing

  pub prints-refused : (f : ImageRefusal) → r ≡ Err f → (out : List ℕ) → Prints image out (Err f) out
  prints-refused (Refused s) e out = record { fills = refused-before (order-refused e); names = sym (ap named_by e) ∙ o.names }
  prints-refused (BadRecord k byte) e out = record { fills = refused-before (order-bad e); names = sym (ap named_by e) ∙ o.names }

  module _ {n : ℕ} (e : r ≡ Ok n) where
    lines-printed : each number_line (take n numbers') ≡ printed image
    unfolding printed
    lines-printed = ap (each number_line) (numbers-order e)

  -- v is what the check of the room said
  module _ {n : ℕ} (e : r ≡ Ok n) (out : List ℕ) {v : Result (Unit {0}) Refusal}
      (found : checked v ≡ no_room (length out) (length (each number_line (take n numbers')))) where
    pub prints-lacking : {s : Refusal} → v ≡ Err s → Prints image out (Err (Refused s)) out
    prints-lacking q = record {
      fills = refused-lacking (order-done e).0 (sym (found ∙ ap (λ (x : List ℕ). no_room (length out) (length x)) (lines-printed e)) ∙ ap checked q);
      names = sym (ap named_by e) ∙ o.names;
    }

    pub prints-done : v ≡ Ok tt → {size : ℕ} {out' : List ℕ} → Fronts (each number_line (take n numbers')) out size out'
        → Prints image out (Ok size) out'
    prints-done h {size} {out'} w =
        let v : Fronts (printed image) out size out' = rw (lines-printed e) at w in
        record {
          fills = rw v.size (filled-whole (order-done e).0 (omega (arith, no-room-kept _ _ (checks-passed found h), ap length (lines-printed e))) v.holds);
          names = sym (ap named_by e) ∙ o.names;
        }

-- ---- ANY TWO RESULTS ARE EQUAL: printing has one answer, and leaves one buffer
pub prints-unique : (image out : List ℕ) {r s : Result ℕ ImageRefusal} {o p : List ℕ} → Prints image out r o → Prints image out s p → (r ≡ s) × (o ≡ p)
prints-unique image out f g =
    let h = fills-unique f.fills g.fills in
    (judged-injective _ _ h.0 (f.names ∙ sym g.names), h.1)

-- ---- A BUFFER OF 2,618 BYTES IS NEVER TOO SHORT: an image that is taken is then printed

judged-done : (r : Result ℕ ImageRefusal) {n : ℕ} → judged_as r ≡ done n → r ≡ Ok n
judged-done (Ok m) e = cc
judged-done (Err (Refused s)) e = absurd (done-not-refused (sym e))
judged-done (Err (BadRecord k byte)) e = absurd (done-not-refused (sym e))

pub prints-enough : (image out : List ℕ) → InOrder (standing image) (count_of image) (order_of image) → length (order_of image) ≡ count_of image
    → takes_image image ≡ passes → 2618 ≤ length out → {r : Result ℕ ImageRefusal} {out' : List ℕ} → Prints image out r out'
    → (r ≡ Ok (length (printed image))) × (out' ≡ front (printed image) out)
prints-enough image out good sized taken room p =
    let most = image-printed-most image (taken-short image taken) good sized in
    let h = fills-unique p.fills (filled-whole taken (omega (arith, most, room)) refl) in
    (judged-done _ h.0, h.1)
