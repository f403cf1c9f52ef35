-- What the answer about a whole image says of its records, from the contract `Judges`.
--
-- In order: if an answer names a record, the checks 1 and 6 passed (`names-passed`); the first
-- record from an index on that breaks its layout (`lowest-from`), and none (`none_from`); THE
-- RECORD NAMED IS THE LOWEST BAD ONE (`bad-lowest`), and if none is named all are good
-- (`records-good`).
use mathlib.Core.Path.{◌≡◌, refl, sym, ◌∙◌}
use mathlib.Core.Option.{Option, none, some}
use mathlib.Core.List.{List, [], ◌∷◌}
use Prim.Native.Nat.{ℕ, zero, suc, ◌+◌, ◌≤◌, ◌<◌}
use native.Mathlib.Omega.{arith}
use lib.Dec.{eqb}
use borrow.Author.Tests.{eqb-true, eqb-false}
use Rattle.std.specs.Prelude.{Ok, Err}
use Rattle.laws.proofs.Bools.{test}
use Rattle.answers.specs.Checks.{Check, passes, refuses, in_order}
use Rattle.answers.specs.Verdicts.{done, refused, verdict}
use Rattle.answers.proofs.Verdicts.{done-not-refused}
use Rattle.labels.specs.Records.{layout}
use Rattle.labels.specs.Images.{record_at, count_of, over_image, no_image, layouts_from, or_else, bad_from, only_if, takes_image, bad_record, Judges}
use Rattle.labels.specs.declared.image.ImageRefusal.TheVariants.{BadRecord}
use Rattle.answers.proofs.Orders.{passes-refuses, order-first, order-rest, order-one, order-passed}

-- ---- a verdict and what it was made of

some-not-none : {k : ℕ} → ◌≡◌ {A = Option ℕ} (some k) none → ⊥
some-not-none e = let z : ◌≡◌ {A = ℕ} 0 1 = cc in omega arith

names-passed : (check : Check) (found : Option ℕ) {k : ℕ} → some k ≡ only_if check found → (check ≡ passes) × (found ≡ some k)
names-passed passes found e = (refl, sym e)
names-passed (refuses number place) found e = absurd (some-not-none e)

refused-check : (check : Check) (value : ℕ) {number place : ℕ} → refused number place ≡ verdict check value → check ≡ refuses number place
refused-check passes value e = absurd (done-not-refused (sym e))
refused-check (refuses n p) value e = cc

done-check : (check : Check) (value : ℕ) {n : ℕ} → done n ≡ verdict check value → (check ≡ passes) × (n ≡ value)
done-check passes value e = (refl, cc)
done-check (refuses n p) value e = absurd (done-not-refused e)

-- ---- the records from an index on

-- k is the first of n records from i on that breaks its layout, at the byte b
record Lowest (image : List ℕ) (i n k b : ℕ) : Type 0 where
  from : i ≤ k
  inside : k < i + n
  breaks : layout (record_at image k) ≡ refuses 7 b
  before : (j : ℕ) → i ≤ j → j < k → layout (record_at image j) ≡ passes

module _ (image : List ℕ) where
  -- a good record is passed over
  lowest-more : {i n k b : ℕ} → layout (record_at image i) ≡ passes → Lowest image (suc i) n k b → Lowest image i (suc n) k b
  lowest-more {i} e l = record {
    from = omega (arith, l.from);
    inside = omega (arith, l.inside);
    breaks = l.breaks;
    before = λ j h q. test (eqb i j) (λ t. rw (← eqb-true i j t) e) (λ t. l.before j (omega (arith, eqb-false i j t)) q);
  }

  lowest-from : (n i : ℕ) {k b : ℕ} → bad_from image i n ≡ some k → layouts_from image i n ≡ refuses 7 b → Lowest image i n k b
  unfolding bad_from layouts_from
  lowest-from zero i p q = absurd (passes-refuses q)
  lowest-from (suc n) i {k} {b} p q = by (layout (record_at image i)) refl p q (lowest-from n (suc i))
    where
      by : (c : Check) → layout (record_at image i) ≡ c → or_else c i (bad_from image (suc i) n) ≡ some k
          → in_order (c ∷ layouts_from image (suc i) n ∷ []) ≡ refuses 7 b
          → (bad_from image (suc i) n ≡ some k → layouts_from image (suc i) n ≡ refuses 7 b → Lowest image (suc i) n k b) → Lowest image i (suc n) k b
      by passes e p q rest = lowest-more e (rest p (sym (order-one (layouts_from image (suc i) n)) ∙ q))
      by (refuses number place) e p q rest =
          let here : i ≡ k = cc in
          record {
            from = omega arith;
            inside = omega arith;
            breaks = rw (← here) (e ∙ q);
            before = λ j h l. absurd (omega (arith, here));
          }

  none_from : (n i : ℕ) → layouts_from image i n ≡ passes → (j : ℕ) → i ≤ j → j < i + n → layout (record_at image j) ≡ passes
  unfolding layouts_from
  none_from zero i e j h l = absurd (omega arith)
  none_from (suc n) i e j h l =
      test (eqb i j)
      (λ t. rw (← eqb-true i j t) (order-first (layout (record_at image i)) (layouts_from image (suc i) n ∷ []) e))
      (λ t. none_from n (suc i)
      (sym (order-one (layouts_from image (suc i) n)) ∙ order-rest (layout (record_at image i)) (layouts_from image (suc i) n ∷ []) e)
      j (omega (arith, eqb-false i j t)) (omega arith))

  judged-lowest : {k b : ℕ} → Judges image (Err (BadRecord k b)) → Lowest image 0 (count_of image) k b
  unfolding bad_record takes_image
  judged-lowest f =
      let named = names-passed (in_order (over_image image ∷ no_image image ∷ [])) (bad_from image 0 (count_of image)) f.names in
      let all = refused-check (takes_image image) (count_of image) f.answers in
      lowest-from (count_of image) 0 named.1
      (sym (order-one (layouts_from image 0 (count_of image)))
      ∙ sym (order-passed (over_image image ∷ no_image image ∷ []) (layouts_from image 0 (count_of image) ∷ []) named.0) ∙ all)

  -- THE RECORD NAMED IS THE LOWEST BAD ONE: it is in the image, the byte named is the first that
  -- breaks its layout, and every record before it is good
  pub bad-lowest : {k b : ℕ} → Judges image (Err (BadRecord k b))
      → (k < count_of image) × (layout (record_at image k) ≡ refuses 7 b) × ((j : ℕ) → j < k → layout (record_at image j) ≡ passes)
  bad-lowest f =
      let l = judged-lowest f in
      (omega (arith, l.inside), l.breaks, λ j h. l.before j (omega arith) h)

  -- and if the answer is how many records there are, every one is good
  pub records-good : {n : ℕ} → Judges image (Ok n) → (n ≡ count_of image) × ((j : ℕ) → j < n → layout (record_at image j) ≡ passes)
  unfolding takes_image
  records-good {n} f =
      let all = done-check (takes_image image) (count_of image) f.answers in
      let rest = order-rest (no_image image) (layouts_from image 0 (count_of image) ∷ [])
      (order-rest (over_image image) (no_image image ∷ layouts_from image 0 (count_of image) ∷ []) all.0) in
      let good = sym (order-one (layouts_from image 0 (count_of image))) ∙ rest in
      (all.1, λ j h. none_from (count_of image) 0 good j (omega arith) (omega (arith, all.1)))
