-- Where a record is put.
--
-- It has: a number whose place is known (`placed_at`), WHAT THE SEARCH FINDS IS THE PLACE
-- (`place_found`); the search by halves: what it keeps (`Between`), from its beginning
-- (`between-all`) by either half (`halved-right`, `halved-left`) to its end (`between_none`);
-- moving up the numbers from the place on (`inserted`).
use mathlib.Core.Path.{◌≡◌, refl, sym, ◌∙◌, ap}
use mathlib.Core.Bool.{Bool, true, false}
use mathlib.Core.List.{List, [], ◌∷◌, ◌++◌, append_assoc}
use Prim.Native.Nat.{ℕ, zero, suc, ◌+◌, ◌-◌, ◌≤◌, ◌<◌}
use native.Mathlib.Numerals.{add-one}
use native.Mathlib.Omega.{arith}
use lib.Dec.{ltb}
use lib.ListN.{length, get_or, take, drop, set}
use lib.Seq.{length-take-le, take-suc, drop_at, take-add, take-take, set_at}
use borrow.Author.Tests.{ltb-true, ltb-false}
use Rattle.std.specs.List.{copy_within}
use Rattle.laws.proofs.Bools.{test}
use Rattle.std.specs.declared.cmp.Ordering.{Ordering}
use Rattle.std.specs.declared.cmp.Ordering.TheVariants.{Less}
use Rattle.sorting.specs.Sorting.{standing, Sorted, is_before, placed}
use Rattle.sorting.specs.Inner.{PlaceFound, Inserted}
use Rattle.sorting.proofs.Standing.{standing-before, standing-strict, is-before, is-not-before}
use Rattle.sorting.proofs.Sorted.{placed-none, placed-after, placed-here, sorted-at}

-- ---- the place

-- a number is put after all that stand before it, if none after these does
pub placed_at : (stands : ℕ → ℕ → Ordering) (k : ℕ) (x : List ℕ) (at : ℕ) → at ≤ length x → ((i : ℕ) → i < at → stands (get_or x i 0) k ≡ Less)
    → ((i : ℕ) → at ≤ i → i < length x → stands (get_or x i 0) k ≡ Less → ⊥) → placed stands k x ≡ take at x ++ (k ∷ drop at x)
placed_at stands k [] zero h below above = placed-none stands k
placed_at stands k [] (suc at) h below above = absurd (omega arith)
placed_at stands k (j ∷ x) zero h below above = placed-here stands k j x (above 0 (omega arith) (omega arith))
placed_at stands k (j ∷ x) (suc at) h below above =
    placed-after stands k j x (below 0 (omega arith))
    ∙ ap (λ (l : List ℕ). j ∷ l)
    (placed_at stands k x at (omega arith) (λ i q. below (suc i) (omega arith)) (λ i p q. above (suc i) (omega arith) (omega arith)))

-- the first n, cut at a place
cut_at : (numbers : List ℕ) (n at : ℕ) → at ≤ n → take n numbers ≡ take at numbers ++ take (n - at) (drop at numbers)
cut_at numbers n at h =
    let whole : at + (n - at) ≡ n = omega arith in
    rw whole at (take-add at (n - at) numbers)

module _ {image : List ℕ} (numbers : List ℕ) (n : ℕ) {k at : ℕ} (inside : n ≤ length numbers) (found : PlaceFound image (take n numbers) k at) where
  pub place-inside : at ≤ n
  place-inside = omega (arith, found.inside, length-take-le n numbers inside)

  place-cut : placed (standing image) k (take n numbers) ≡ take at (take n numbers) ++ (k ∷ drop at (take n numbers))
  place-cut = placed_at (standing image) k (take n numbers) at found.inside found.below found.above

  -- WHAT THE SEARCH FINDS IS THE PLACE
  pub place_found : placed (standing image) k (take n numbers) ≡ take at numbers ++ (k ∷ take (n - at) (drop at numbers))
  place_found =
      let size : length (take at numbers) ≡ at = length-take-le at numbers (omega (arith, place-inside)) in
      let rest : drop at (take n numbers) ≡ take (n - at) (drop at numbers) =
      ap (drop at) (cut_at numbers n at place-inside) ∙ drop_at (take at numbers) (take (n - at) (drop at numbers)) at size in
      place-cut ∙ rw (rest, take-take at n numbers place-inside)

-- ---- the search by halves

-- the place of k is not below low, nor above high
pub record Between (image numbers : List ℕ) (k low high : ℕ) : Type 0 where
  pub ordered : low ≤ high
  pub inside : high ≤ length numbers
  pub below : (i : ℕ) → i < low → standing image (get_or numbers i 0) k ≡ Less
  pub above : (i : ℕ) → high ≤ i → i < length numbers → standing image (get_or numbers i 0) k ≡ Less → ⊥

-- everywhere
pub between-all : (image numbers : List ℕ) (k : ℕ) → Between image numbers k 0 (length numbers)
between-all image numbers k = record {
  ordered = omega arith;
  inside = omega arith;
  below = λ i h. absurd (omega arith);
  above = λ i h q. absurd (omega arith);
}

module _ {image numbers : List ℕ} {k low high : ℕ} (b : Between image numbers k low high) where
  pub between_none : high ≤ low → PlaceFound image numbers k low
  between_none h = record { inside = omega (arith, b.ordered, b.inside); below = b.below; above = λ i q r. b.above i (omega arith) r }

  module _ (sorted : Sorted (standing image) numbers) {middle : ℕ} (from : low ≤ middle) (to : middle < high) {found : Bool}
      (says : found ≡ is_before (standing image (get_or numbers middle 0) k)) where
    -- the middle one stands before k, and so do those below it
    pub halved-right : found ≡ true → Between image numbers k (middle + 1) high
    halved-right e =
        let first = is-before (standing image (get_or numbers middle 0) k) (sym says ∙ e) in
        record { ordered = omega arith; inside = b.inside; below = λ i h. below first i h; above = b.above }
      where
        below : standing image (get_or numbers middle 0) k ≡ Less → (i : ℕ) → i < middle + 1 → standing image (get_or numbers i 0) k ≡ Less
        below first i h =
            test (ltb i middle)
            (λ t.
            standing-before image (get_or numbers i 0) (get_or numbers middle 0) k
            (sorted-at (standing-strict image) sorted i middle (ltb-true i middle t) (omega (arith, b.inside))) first)
            (λ t.
            let same : i ≡ middle = omega (arith, ltb-false i middle t) in
            rw same first)

    -- it does not, and none above it does
    pub halved-left : found ≡ false → Between image numbers k low middle
    halved-left e =
        let first = is-not-before (standing image (get_or numbers middle 0) k) (sym says ∙ e) in
        record { ordered = from; inside = omega (arith, b.inside); below = b.below; above = λ i h r q. above first i h r q }
      where
        above : (standing image (get_or numbers middle 0) k ≡ Less → ⊥) → (i : ℕ) → middle ≤ i → i < length numbers
            → standing image (get_or numbers i 0) k ≡ Less → ⊥
        above first i h r q =
            test (ltb middle i)
            (λ t.
            first (standing-before image (get_or numbers middle 0) (get_or numbers i 0) k (sorted-at (standing-strict image) sorted middle i (ltb-true middle i t) r) q))
            (λ t.
            let same : i ≡ middle = omega (arith, ltb-false middle i t) in
            first (rw same at q))

-- ---- moving up those from the place on

-- as the code copies them, and then stores k
pub inserted : {numbers : List ℕ} {n at : ℕ} (k : ℕ) → at ≤ n → n < length numbers → Inserted numbers n at k (set (copy_within numbers at n (at + 1)) at k)
inserted {numbers} {n} {at} k h q =
    let size : length (take at numbers) ≡ at = length-take-le at numbers (omega arith) in
    let end : at + 1 + (n - at) ≡ suc n = omega arith in
    let moved : copy_within numbers at n (at + 1) ≡ take at numbers ++ (get_or numbers at 0 ∷ (take (n - at) (drop at numbers) ++ drop (suc n) numbers)) =
    rw (end, add-one, take-suc numbers at 0 (omega arith)) (simp append_assoc refl) in
    record { holds = ap (λ (l : List ℕ). set l at k) moved ∙ set_at (take at numbers) (get_or numbers at 0) _ k at size }
