-- THE ORDER IS A PERMUTATION OF ALL RECORD NUMBERS, SORTED BY RANK, BERTH AND NUMBER, AND IT IS THE
-- ONLY ONE.
--
-- In order: members (`member-length`, `member-cases`, `all-member`); one number put in its place,
-- by cases (`placed-none`, `placed-after`, `placed-here`), and what that keeps (`placed-length`,
-- `placed-all`, `placed-member`, `placed-kept`, `placed-sorted`); the first n numbers put in their
-- places one after the other (`ordered-next`, `ordered-none`, `ordered-length`, `ordered-inside`,
-- `ordered-member`, `ordered-sorted`): that is right over any strict order (`ordered-right`), and
-- no other list is (`in-order-only`); sorted numbers at their indices (`sorted-at`); THE SAME OF AN
-- IMAGE (`order-right`, `order-only`, `order-length`).
use mathlib.Core.Path.{◌≡◌, refl, sym, ◌∙◌, ap}
use mathlib.Core.List.{List, [], ◌∷◌}
use Prim.Native.Nat.{ℕ, zero, suc, ◌≤◌, ◌<◌}
use native.Mathlib.Omega.{arith}
use lib.Dec.{ltb}
use lib.ListN.{length, get_or}
use borrow.Author.Tests.{ltb-true, ltb-false}
use Rattle.laws.specs.Lists.{All, none, also}
use Rattle.laws.proofs.Bools.{test}
use Rattle.laws.proofs.Lists.{all_map, all-at}
use Rattle.std.specs.declared.cmp.Ordering.{Ordering}
use Rattle.std.specs.declared.cmp.Ordering.TheVariants.{Less}
use Rattle.labels.specs.Images.{count_of}
use Rattle.sorting.specs.Sorting.{standing, is_before, Sorted, Member, here, there, InOrder, placed, sorted_by, order_of}
use Rattle.sorting.specs.Sorting as sorting
use Rattle.sorting.proofs.Standing.{Strict, before-not-self, before-not-back, else-before, standing-strict, is-before, is-not-before, not-before}

-- ---- members

pub member-length : {k : ℕ} {x : List ℕ} → Member k x → 1 ≤ length x
member-length here = omega arith
member-length (there m) = omega (arith, member-length m)

pub member-cases : {G : Type 0} {k j : ℕ} {x : List ℕ} → Member k (j ∷ x) → (k ≡ j → G) → (Member k x → G) → G
member-cases here first next = first refl
member-cases (there m) first next = next m

pub all-member : {P : ℕ → Type 0} {x : List ℕ} → All P x → {k : ℕ} → Member k x → P k
all-member none m = elim m [ ]
all-member (also p q) here = p
all-member (also p q) (there m) = all-member q m

-- ---- one number put in its place

module _ (stands : ℕ → ℕ → Ordering) (k : ℕ) where
  pub placed-none : placed stands k [] ≡ k ∷ []
  unfolding placed
  placed-none = refl

  pub placed-after : (j : ℕ) (x : List ℕ) → stands j k ≡ Less → placed stands k (j ∷ x) ≡ j ∷ placed stands k x
  unfolding placed
  placed-after j x e = rw e

  pub placed-here : (j : ℕ) (x : List ℕ) → (stands j k ≡ Less → ⊥) → placed stands k (j ∷ x) ≡ k ∷ j ∷ x
  unfolding placed
  placed-here j x h = rw (not-before (stands j k) h)

  -- by cases
  either : {G : Type 0} (j : ℕ) → (stands j k ≡ Less → G) → ((stands j k ≡ Less → ⊥) → G) → G
  either j yea nay = test (is_before (stands j k)) (λ e. yea (is-before (stands j k) e)) (λ e. nay (is-not-before (stands j k) e))

  pub placed-length : (x : List ℕ) → length (placed stands k x) ≡ suc (length x)
  placed-length [] = ap length placed-none
  placed-length (j ∷ x) =
      either j (λ e. ap length (placed-after j x e) ∙ ap suc (placed-length x)) (λ h. ap length (placed-here j x h))

  pub placed-all : {P : ℕ → Type 0} → P k → {x : List ℕ} → All P x → All P (placed stands k x)
  placed-all p none = rw placed-none (also p none)
  placed-all p (also {a = j} {x = x} q r) =
      either j (λ e. rw (placed-after j x e) (also q (placed-all p r))) (λ h. rw (placed-here j x h) (also p (also q r)))

  pub placed-member : (x : List ℕ) → Member k (placed stands k x)
  placed-member [] = rw placed-none here
  placed-member (j ∷ x) = either j (λ e. rw (placed-after j x e) (there (placed-member x))) (λ h. rw (placed-here j x h) here)

  pub placed-kept : {i : ℕ} {x : List ℕ} → Member i x → Member i (placed stands k x)
  placed-kept {i} (here {x = x}) = either i (λ e. rw (placed-after i x e) here) (λ h. rw (placed-here i x h) (there here))
  placed-kept (there {j = j} {x = x} m) =
      either j (λ e. rw (placed-after j x e) (there (placed-kept m))) (λ h. rw (placed-here j x h) (there (there m)))

  -- the list stays sorted, if it does not have that number
  pub placed-sorted : Strict stands → {x : List ℕ} → Sorted stands x → All (λ j. j ≡ k → ⊥) x → Sorted stands (placed stands k x)
  placed-sorted strict sorting.none none = rw placed-none (sorting.also none sorting.none)
  placed-sorted strict (sorting.also {k = j} {x = x} first rest) (also differs others) =
      either j (λ e. rw (placed-after j x e) (sorting.also (placed-all e first) (placed-sorted strict rest others)))
      (λ h.
      let front = else-before strict j k h differs in
      rw (placed-here j x h)
      (sorting.also (also front (all_map (λ m p. strict.before k j m front p) first)) (sorting.also first rest)))

-- ---- the first n numbers put in their places

module _ (stands : ℕ → ℕ → Ordering) where
  pub ordered-next : (n : ℕ) → sorted_by stands (suc n) ≡ placed stands n (sorted_by stands n)
  unfolding sorted_by
  ordered-next n = refl

  pub ordered-none : sorted_by stands 0 ≡ []
  unfolding sorted_by
  ordered-none = refl

  pub ordered-length : (n : ℕ) → length (sorted_by stands n) ≡ n
  ordered-length zero = ap length ordered-none
  ordered-length (suc n) =
      ap length (ordered-next n) ∙ placed-length stands n (sorted_by stands n) ∙ ap suc (ordered-length n)

  pub ordered-inside : (n : ℕ) → All (λ k. k < n) (sorted_by stands n)
  ordered-inside zero = rw ordered-none none
  ordered-inside (suc n) =
      rw (ordered-next n) (placed-all stands n (omega arith) (all_map (λ k h. omega arith) (ordered-inside n)))

  pub ordered-member : (n k : ℕ) → k < n → Member k (sorted_by stands n)
  ordered-member zero k h = absurd (omega arith)
  ordered-member (suc n) k h =
      rw (ordered-next n)
      (test (ltb k n) (λ e. placed-kept stands n (ordered-member n k (ltb-true k n e)))
      (λ e.
      let last : k ≡ n = omega (arith, ltb-false k n e) in
      rw last (placed-member stands n (sorted_by stands n))))

  pub ordered-sorted : Strict stands → (n : ℕ) → Sorted stands (sorted_by stands n)
  ordered-sorted strict zero = rw ordered-none sorting.none
  ordered-sorted strict (suc n) =
      rw (ordered-next n)
      (placed-sorted stands n strict (ordered-sorted strict n) (all_map (λ k h e. omega arith) (ordered-inside n)))

  -- over any strict order: they are all there, and sorted
  pub ordered-right : Strict stands → (n : ℕ) → InOrder stands n (sorted_by stands n)
  ordered-right strict n = record { sorted = ordered-sorted strict n; inside = ordered-inside n; all = ordered-member n }

-- ---- sorted lists with the same members are equal

module _ {stands : ℕ → ℕ → Ordering} (strict : Strict stands) where
  same_first : {a b : ℕ} {x y : List ℕ} → All (λ j. stands a j ≡ Less) x → All (λ j. stands b j ≡ Less) y → Member a (b ∷ y) → Member b (a ∷ x)
      → a ≡ b
  same_first {a} {b} p q m n =
      member-cases m (λ e. e)
      (λ m'. member-cases n (λ e. sym e) (λ n'. absurd (before-not-back strict a b (all-member p n') (all-member q m'))))

  -- a member after the first of one list is one after the first of the other
  same_rest : {a b k : ℕ} {x y : List ℕ} → a ≡ b → All (λ j. stands a j ≡ Less) x → Member k x → Member k (b ∷ y) → Member k y
  same_rest {a} e p m n =
      member-cases n (λ q. absurd (before-not-self strict a (rw (q ∙ sym e) at (all-member p m)))) (λ n'. n')

  same-sorted : {x y : List ℕ} → Sorted stands x → Sorted stands y → ((k : ℕ) → Member k x → Member k y) → ((k : ℕ) → Member k y → Member k x) → x ≡ y
  same-sorted sorting.none sorting.none f g = refl
  same-sorted sorting.none (sorting.also {k = b} q t) f g = absurd (omega (arith, member-length (g b here)))
  same-sorted (sorting.also {k = a} p s) sorting.none f g = absurd (omega (arith, member-length (f a here)))
  same-sorted (sorting.also {k = a} {x = x} p s) (sorting.also {k = b} {x = y} q t) f g =
      let head : a ≡ b = same_first p q (f a here) (g b here) in
      let tail : x ≡ y =
      same-sorted s t (λ k m. same_rest head p m (f k (there m))) (λ k m. same_rest (sym head) q m (g k (there m))) in
      cc

  -- over any strict order: no two lists are in order
  pub in-order-only : (n : ℕ) {x y : List ℕ} → InOrder stands n x → InOrder stands n y → x ≡ y
  in-order-only n f g =
      same-sorted f.sorted g.sorted (λ k m. g.all k (all-member f.inside m)) (λ k m. f.all k (all-member g.inside m))

  -- what stands earlier in a sorted list stands before what stands later
  pub sorted-at : {x : List ℕ} → Sorted stands x → (i j : ℕ) → i < j → j < length x → stands (get_or x i 0) (get_or x j 0) ≡ Less
  sorted-at sorting.none i j h q = absurd (omega arith)
  sorted-at (sorting.also p s) i zero h q = absurd (omega arith)
  sorted-at (sorting.also p s) zero (suc j) h q = all-at 0 p j (omega arith)
  sorted-at (sorting.also p s) (suc i) (suc j) h q = sorted-at s i j (omega arith) (omega arith)

-- ---- THE ORDER OF AN IMAGE'S RECORDS

module _ (image : List ℕ) where
  -- it is all their numbers, sorted
  pub order-right : InOrder (standing image) (count_of image) (order_of image)
  order-right = ordered-right (standing image) (standing-strict image) (count_of image)

  -- and nothing else is
  pub order-only : {x : List ℕ} → InOrder (standing image) (count_of image) x → x ≡ order_of image
  order-only f = in-order-only (standing-strict image) (count_of image) f order-right

  pub order-length : length (order_of image) ≡ count_of image
  order-length = ordered-length (standing image) (count_of image)
