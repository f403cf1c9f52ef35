-- The records of an image, and the checks 1 and 6.
--
-- It has: a record in an image (`at_length`); an image with another record in it
-- (`replaced-length`, `replaced-here`, `replaced-other`, `replaced-same`); the checks
-- (`image-over`, `image-within`, `taken-short`, `taken-count`, `number-uneven`, `number-beyond`,
-- `number_in`, `number-inside`, `image-uneven`, `image-even`); and the part of an image that is
-- judged is the record (`fault-is`).
use mathlib.Core.Path.{◌≡◌, sym, ◌∙◌, ap}
use mathlib.Core.Bool.{◌&&◌}
use mathlib.Core.List.{List, [], ◌∷◌, ◌++◌, append_assoc}
use Prim.Native.Nat.{ℕ, ◌+◌, ◌-◌, ◌*◌, ◌/◌, ◌%◌, ◌≤◌, ◌<◌}
use native.Mathlib.Omega.{arith}
use lib.Dec.{ltb, eqb}
use lib.ListN.{length, take, drop, length-append, length-drop, take-append-drop}
use lib.Seq.{length-take-le, take_at, drop_at, take-append-le, drop-append-le, drop-append-add, drop-drop}
use borrow.Author.Tests.{lt-ltb, le-ltb, ltb-true, ltb-false, eq-eqb, ne_eqb}
use Rattle.std.specs.Prelude.{Option}
use Rattle.laws.proofs.Bools.{test, and_right}
use Rattle.answers.specs.Checks.{passes, refuses}
use Rattle.answers.proofs.Orders.{order-first, passes-true}
use Rattle.answers.proofs.Checks.{over-limit-refuses, over-limit-passes, over-limit-kept}
use Rattle.labels.specs.Records.{layout}
use Rattle.labels.specs.Images.{record_at, replaced, count_of, over_image, no_image, layouts_from, no_record, takes_image}
use Rattle.labels.specs.Inner.{faulty}

-- ---- a record in its image

-- a part that ends before the front of a list ends is a part of that front
part-front : (n : ℕ) (x y : List ℕ) → n + 96 ≤ length x → take 96 (drop n (x ++ y)) ≡ take 96 (drop n x)
part-front n x y h =
    rw (drop-append-le n x y (omega arith)) (take-append-le 96 (drop n x) y (omega (arith, length-drop n x)))

module _ (image : List ℕ) (k : ℕ) (inside : 96 * k + 96 ≤ length image) where
  pub at_length : length (record_at image k) ≡ 96
  unfolding record_at
  at_length = length-take-le 96 (drop (96 * k) image) (omega (arith, length-drop (96 * k) image))

  before-length : length (take (96 * k) image) ≡ 96 * k
  before-length = length-take-le (96 * k) image (omega arith)

  -- its own bytes put back leave the image as it is
  pub replaced-same : replaced image k (record_at image k) ≡ image
  unfolding replaced record_at
  replaced-same =
      ap (λ (l : List ℕ). take (96 * k) image ++ (take 96 (drop (96 * k) image) ++ l)) (sym (drop-drop 96 (96 * k) image))
      ∙ ap (λ (l : List ℕ). take (96 * k) image ++ l) (take-append-drop 96 (drop (96 * k) image)) ∙ take-append-drop (96 * k) image

  module _ (bytes : List ℕ) (size : length bytes ≡ 96) where
    -- the image stays as long as it was
    pub replaced-length : length (replaced image k bytes) ≡ length image
    unfolding replaced
    replaced-length =
        simp (length-append, before-length, size, length-drop) (omega arith)

    -- the record is the new one
    pub replaced-here : record_at (replaced image k bytes) k ≡ bytes
    unfolding replaced record_at
    replaced-here = rw (drop_at (take (96 * k) image) (bytes ++ drop (96 * k + 96) image) (96 * k) before-length) (take_at bytes _ 96 size)

    -- and the others are as they were
    pub replaced-before : (j : ℕ) → j < k → record_at (replaced image k bytes) j ≡ record_at image j
    unfolding replaced record_at
    replaced-before j h =
        let fits : 96 * j + 96 ≤ length (take (96 * k) image) = omega (arith, before-length) in
        part-front (96 * j) (take (96 * k) image) (bytes ++ drop (96 * k + 96) image) fits
        ∙ sym (part-front (96 * j) (take (96 * k) image) (drop (96 * k) image) fits)
        ∙ ap (λ (l : List ℕ). take 96 (drop (96 * j) l)) (take-append-drop (96 * k) image)

    pub replaced-after : (j : ℕ) → k < j → record_at (replaced image k bytes) j ≡ record_at image j
    unfolding replaced record_at
    replaced-after j h =
        let front : length (take (96 * k) image ++ bytes) ≡ 96 * k + 96 = simp (length-append, before-length, size) in
        let far : 96 * j ≡ length (take (96 * k) image ++ bytes) + (96 * j - (96 * k + 96)) = omega (arith, front) in
        let near : 96 * k + 96 + (96 * j - (96 * k + 96)) ≡ 96 * j = omega arith in
        ap (take 96)
        (ap (λ (n : ℕ). drop n (take (96 * k) image ++ (bytes ++ drop (96 * k + 96) image))) far
        ∙ ap (drop (length (take (96 * k) image ++ bytes) + (96 * j - (96 * k + 96)))) (sym (append_assoc (take (96 * k) image) bytes _))
        ∙ drop-append-add (take (96 * k) image ++ bytes) (drop (96 * k + 96) image) (96 * j - (96 * k + 96))
        ∙ drop-drop (96 * j - (96 * k + 96)) (96 * k + 96) image ∙ ap (λ (n : ℕ). drop n image) near)

    pub replaced-other : (j : ℕ) → (j ≡ k → ⊥) → record_at (replaced image k bytes) j ≡ record_at image j
    replaced-other j h = test (ltb j k) (λ e. replaced-before j (ltb-true j k e)) (λ e. replaced-after j (omega (arith, ltb-false j k e, h)))

-- ---- 1 and 6

module _ (image : List ℕ) where
  pub image-over : 65472 < length image → over_image image ≡ refuses 1 65472
  unfolding over_image
  image-over h = over-limit-refuses 65472 (length image) h

  pub image-within : length image ≤ 65472 → over_image image ≡ passes
  unfolding over_image
  image-within h = over-limit-passes 65472 (length image) h

  -- back: an image that is taken has at most 65,472 bytes, and so at most 682 records
  pub taken-short : takes_image image ≡ passes → length image ≤ 65472
  unfolding takes_image over_image
  taken-short e =
      over-limit-kept 65472 (length image) (order-first (over_image image) (no_image image ∷ layouts_from image 0 (count_of image) ∷ []) e)

  pub taken-count : takes_image image ≡ passes → count_of image ≤ 682
  taken-count e = omega (arith, taken-short e)

  pub image-uneven : (length image % 96 ≡ 0 → ⊥) → no_image image ≡ refuses 6 (length image)
  unfolding no_image
  image-uneven h = simp (ne_eqb (length image % 96) 0 h)

  pub image-even : length image % 96 ≡ 0 → no_image image ≡ passes
  unfolding no_image
  image-even h = simp (eq-eqb (length image % 96) 0 h)

  module _ (k : ℕ) where
    pub number-uneven : (length image % 96 ≡ 0 → ⊥) → no_record image k ≡ refuses 6 (length image)
    unfolding no_record
    number-uneven h = simp (ne_eqb (length image % 96) 0 h)

    pub number-beyond : length image % 96 ≡ 0 → length image / 96 ≤ k → no_record image k ≡ refuses 6 (length image)
    unfolding no_record
    number-beyond h b = simp (eq-eqb (length image % 96) 0 h, le-ltb k (count_of image) b)

    pub number_in : length image % 96 ≡ 0 → k < length image / 96 → no_record image k ≡ passes
    unfolding no_record
    number_in h b = simp (eq-eqb (length image % 96) 0 h, lt-ltb k (count_of image) b)

    -- back: a record whose number passes stands in the image
    pub number-inside : no_record image k ≡ passes → 96 * k + 96 ≤ length image
    unfolding no_record
    number-inside e =
        let both = passes-true (eqb (length image % 96) 0 && ltb k (count_of image)) 6 (length image) e in
        omega (arith, ltb-true k (count_of image) (and_right (eqb (length image % 96) 0) (ltb k (count_of image)) both))

-- the part of the image that the code judges is the record: what is found is the first byte that
-- breaks its layout
pub fault-is : (image : List ℕ) (k : ℕ) (found : Option ℕ) → layout (take (96 * k + 96 - 96 * k) (drop (96 * k) image)) ≡ faulty found
    → layout (record_at image k) ≡ faulty found
unfolding record_at
fault-is image k found e =
    let n : 96 * k + 96 - 96 * k ≡ 96 = omega arith in
    rw n at e
