-- Laws of lists that the libraries lack. In order: two lists that make nothing (`nil-left`,
-- `nil-right`), one and two (`one-not-two`); one list cut in two ways, with fronts as long
-- (`cut-front`, `cut-back`) or with any (`Cuts`, `cuts`); what stands at an index (`at-index`,
-- `at-index-to`, `three-at`, `four-at`); then `All`, `each` (at a loop's index at the end),
-- `first_where` and `count`, a section each.
use mathlib.Core.Path.{◌≡◌, refl, sym, ◌∙◌, ap}
use mathlib.Core.Bool.{Bool, true, false, cond}
use mathlib.Core.List.{List, [], ◌∷◌, ◌++◌, append_assoc, append-nil, cons≢nil}
use Prim.Native.Nat.{ℕ, zero, suc, ◌+◌, ◌*◌, ◌≤◌, ◌<◌}
use native.Mathlib.Nat.{mul-suc, add-zero, zero-add, add-suc, suc-add}
use native.Mathlib.Numerals.{add-one}
use native.Mathlib.Omega.{arith}
use lib.Dec.{eqb}
use lib.ListN.{length, get_or, drop, length-append, drop_of_length-le}
use lib.Seq.{drop-cons, drop_at, drop-append_seam}
use borrow.Author.Tests.{eqb-true, eqb-false}
use Rattle.laws.specs.Lists.{each, All, none, also, first_where, count}
use Rattle.laws.proofs.Bools.{test as decide}

-- ---- two lists put together

module _ {A : Type 0} where
  pub nil-left : (x y : List A) → x ++ y ≡ [] → x ≡ []
  nil-left [] y e = refl
  nil-left (a ∷ x) y e = absurd (cons≢nil e)

  pub nil-right : (x y : List A) → x ++ y ≡ [] → y ≡ []
  nil-right [] y e = e
  nil-right (a ∷ x) y e = absurd (cons≢nil e)

  pub one-not-two : {a b c : A} → a ∷ [] ≡ b ∷ c ∷ [] → ⊥
  one-not-two e = omega (arith, ap length e)

  -- one list cut in two ways, with fronts as long: the fronts are equal, and the backs
  pub cut-front : (u t x y : List A) → u ++ t ≡ x ++ y → length u ≡ length x → u ≡ x
  cut-front [] t [] y e h = refl
  cut-front [] t (c ∷ x) y e h = absurd (omega arith)
  cut-front (b ∷ u) t [] y e h = absurd (omega arith)
  cut-front (b ∷ u) t (c ∷ x) y e h = cc (cut-front u t x y (cc) (omega arith))

  pub cut-back : (u t x y : List A) → u ++ t ≡ x ++ y → length u ≡ length x → t ≡ y
  cut-back u t x y e h = sym (drop-append_seam u t) ∙ ap (drop (length u)) e ∙ drop_at x y (length u) (sym h)

  -- one list cut in two ways: the second cut is not after the first, or it is
  pub data Cuts (u t x y : List A) : Type 0 where
    short : (z : List A) → u ≡ x ++ z → Cuts u t x y
    long : (a : A) (z : List A) → x ≡ u ++ a ∷ z → t ≡ a ∷ z ++ y → Cuts u t x y

  pub cuts : (u t x y : List A) → u ++ t ≡ x ++ y → Cuts u t x y
  cuts [] t [] y e = short [] refl
  cuts [] t (c ∷ x) y e = long c x refl e
  cuts (b ∷ u) t [] y e = short (b ∷ u) refl
  cuts (b ∷ u) t (c ∷ x) y e = more (cuts u t x y (cc))
    where
      same : b ≡ c
      same = cc

      more : Cuts u t x y → Cuts (b ∷ u) t (c ∷ x) y
      more (short z p) = short z (cc)
      more (long a z p q) = long a z (cc) q

-- ---- what stands at an index, and the rest: one element, three, four

module _ {A : Type 0} (d : A) (l : List A) (i : ℕ) where
  pub at-index : i < length l → drop i l ≡ get_or l i d ∷ drop (i + 1) l
  at-index h = rw add-one (drop-cons l i d h)

  -- j is the index after it
  pub at-index-to : (j : ℕ) → j ≡ suc i → i < length l → drop i l ≡ get_or l i d ∷ drop j l
  at-index-to j e h = rw e (drop-cons l i d h)

module _ {A : Type 0} (d : A) (l : List A) (i : ℕ) where
  pub three-at : i + 3 ≤ length l → drop i l ≡ get_or l i d ∷ get_or l (i + 1) d ∷ get_or l (i + 2) d ∷ drop (i + 3) l
  three-at h =
      let one = at-index d l i (omega arith) in
      let two = at-index-to d l (i + 1) (i + 2) (omega arith) (omega arith) in
      let three = at-index-to d l (i + 2) (i + 3) (omega arith) (omega arith) in
      rw (one, two, three)

  pub four-at : i + 4 ≤ length l → drop i l ≡ get_or l i d ∷ get_or l (i + 1) d ∷ get_or l (i + 2) d ∷ get_or l (i + 3) d ∷ drop (i + 4) l
  four-at h =
      let three = three-at (omega arith) in
      let four = at-index-to d l (i + 3) (i + 4) (omega arith) (omega arith) in
      rw (three, four)

-- ---- All

module _ {A : Type 0} {P : A → Type 0} where
  pub all_append : {x y : List A} → All P x → All P y → All P (x ++ y)
  all_append none q = q
  all_append (also h p) q = also h (all_append p q)

  pub all_head : {a : A} {x : List A} → All P (a ∷ x) → P a
  all_head (also h p) = h

  pub all_tail : {a : A} {x : List A} → All P (a ∷ x) → All P x
  all_tail (also h p) = p

  pub all_of : ((a : A) → P a) → (x : List A) → All P x
  all_of h [] = none
  all_of h (a ∷ x) = also (h a) (all_of h x)

pub all_left : {A : Type 0} {P : A → Type 0} (x y : List A) → All P (x ++ y) → All P x
all_left [] y h = none
all_left (a ∷ x) y (also h p) = also h (all_left x y p)

pub all_right : {A : Type 0} {P : A → Type 0} (x y : List A) → All P (x ++ y) → All P y
all_right [] y h = h
all_right (a ∷ x) y (also h p) = all_right x y p

pub all_map : {A : Type 0} {P Q : A → Type 0} → ((a : A) → P a → Q a) → {x : List A} → All P x → All Q x
all_map f none = none
all_map f (also {a = a} h p) = also (f a h) (all_map f p)

-- at an index
pub all-at : {A : Type 0} {P : A → Type 0} (d : A) {l : List A} → All P l → (i : ℕ) → i < length l → P (get_or l i d)
all-at d none i h = absurd (omega arith)
all-at d (also p q) zero h = p
all-at d (also p q) (suc i) h = all-at d q i (omega arith)

-- ---- each

module _ {A B : Type 0} (f : A → List B) where
  pub each_nil : each f [] ≡ []
  unfolding each
  each_nil = refl

  pub each-cons : (a : A) (x : List A) → each f (a ∷ x) ≡ f a ++ each f x
  unfolding each
  each-cons a x = refl

  pub each-one : (a : A) → each f (a ∷ []) ≡ f a
  unfolding each
  each-one a = append-nil (f a)

  pub each_append : (x y : List A) → each f (x ++ y) ≡ each f x ++ each f y
  unfolding each
  each_append [] y = refl
  each_append (a ∷ x) y = rw (each_append x y, append_assoc)

  -- at least, and at most, k for each element
  pub length-each-least : ((a : A) → 1 ≤ length (f a)) → (x : List A) → length x ≤ length (each f x)
  unfolding each
  length-each-least h [] = omega arith
  length-each-least h (a ∷ x) = simp length-append (omega (arith, h a, length-each-least h x))

  pub length-each-most : (k : ℕ) → ((a : A) → length (f a) ≤ k) → (x : List A) → length (each f x) ≤ k * length x
  unfolding each
  length-each-most k h [] = omega arith
  length-each-most k h (a ∷ x) = simp (length-append, mul-suc) (omega (arith, h a, length-each-most k h x))

  -- every piece's elements have P
  pub all-each : {P : B → Type 0} → ((a : A) → All P (f a)) → (x : List A) → All P (each f x)
  unfolding each
  all-each h [] = none
  all-each h (a ∷ x) = all_append (h a) (all-each h x)

  -- and those of elements that have Q
  pub all-each-of : {P : B → Type 0} {Q : A → Type 0} → ((a : A) → Q a → All P (f a)) → {x : List A} → All Q x → All P (each f x)
  unfolding each
  all-each-of h none = none
  all-each-of h (also {a = a} q p) = all_append (h a q) (all-each-of h p)

  -- at a loop's index: what is left is what stands at i, and then what is left after it
  pub each_next : (d : A) (l : List A) (i : ℕ) → i < length l → each f (drop i l) ≡ f (get_or l i d) ++ each f (drop (i + 1) l)
  unfolding each
  each_next d l i h = rw (at-index d l i h)

  pub each-end : (l : List A) (i : ℕ) → length l ≤ i → each f (drop i l) ≡ []
  unfolding each
  each-end l i h = rw (drop_of_length-le l h)

pub each-each : {A B C : Type 0} (g : B → List C) (f : A → List B) (x : List A) → each g (each f x) ≡ each (λ a. each g (f a)) x
unfolding each
each-each g f [] = refl
each-each g f (a ∷ x) = each_append g (f a) (each f x) ∙ ap (λ (l : List _). each g (f a) ++ l) (each-each g f x)

-- where each element is its own piece, nothing changes
pub each-alone : {A : Type 0} (f : A → List A) {x : List A} → All (λ a. f a ≡ a ∷ []) x → each f x ≡ x
unfolding each
each-alone f none = refl
each-alone f (also h p) = rw (h, each-alone f p)

-- pieces that agree element by element
pub each_same : {A B : Type 0} (f g : A → List B) → ((a : A) → f a ≡ g a) → (x : List A) → each f x ≡ each g x
unfolding each
each_same f g h [] = refl
each_same f g h (a ∷ x) = rw (h a, each_same f g h x)

-- ---- first_where

module _ {A : Type 0} (test : A → Bool) where
  -- none passes
  pub first-none : {x : List A} → All (λ a. test a ≡ false) x → first_where test x ≡ length x
  unfolding first_where
  first-none none = refl
  first-none (also h p) = rw (h, first-none p)

  pub none_first : (x : List A) → length x ≤ first_where test x → All (λ a. test a ≡ false) x
  unfolding first_where
  none_first [] h = none
  none_first (a ∷ x) h = by (test a) refl h (none_first x)
    where
      by : (b : Bool) → test a ≡ b → length (a ∷ x) ≤ cond b 0 (suc (first_where test x))
          → (length x ≤ first_where test x → All (λ a. test a ≡ false) x) → All (λ a. test a ≡ false) (a ∷ x)
      by true e h rest = absurd (omega arith)
      by false e h rest = also e (rest (omega arith))

-- at a loop's index: n is the index wanted

module _ {A : Type 0} (test : A → Bool) (d : A) (l : List A) (i n : ℕ) where
  pub first_next : i < length l → test (get_or l i d) ≡ false → i + first_where test (drop i l) ≡ n → i + 1 + first_where test (drop (i + 1) l) ≡ n
  unfolding first_where
  first_next h e q = omega (arith, simp e at (rw (at-index d l i h) at q))

  pub first-here : i < length l → test (get_or l i d) ≡ true → i + first_where test (drop i l) ≡ n → i ≡ n
  unfolding first_where
  first-here h e q = omega (arith, simp e at (rw (at-index d l i h) at q))

  pub first-end : length l ≤ i → i + first_where test (drop i l) ≡ n → i ≡ n
  unfolding first_where
  first-end h q = omega (arith, simp (drop_of_length-le l h) at q)

-- ---- count

module _ (test : ℕ → Bool) where
  pub count_none : (n lo : ℕ) → ((c : ℕ) → lo ≤ c → c < lo + n → test c ≡ false) → count test lo n ≡ 0
  unfolding count
  count_none zero lo h = refl
  count_none (suc n) lo h = rw (h lo (omega arith) (omega arith)) (count_none n (suc lo) (λ c p q. h c (omega arith) (omega arith)))

  pub count-zero : (n lo : ℕ) {c : ℕ} → count test lo n ≡ 0 → lo ≤ c → c < lo + n → test c ≡ false
  unfolding count
  count-zero zero lo e l h = absurd (omega arith)
  count-zero (suc n) lo {c} e l h =
      decide (test lo) (λ p. absurd (omega (arith, simp p at e)))
      (λ p. decide (eqb c lo) (λ q. rw (eqb-true c lo q) p) (λ q. let d = eqb-false c lo q in count-zero n (suc lo) (simp p at e) (omega arith) (omega arith)))

  pub count-append : (n m lo : ℕ) → count test lo (n + m) ≡ count test lo n + count test (lo + n) m
  unfolding count
  count-append zero m lo = simp (zero-add, add-zero)
  count-append (suc n) m lo = simp (suc-add, add-suc) (step (test lo) (simp suc-add at (count-append n m (suc lo))))
    where
      step : (b : Bool) → count test (suc lo) (n + m) ≡ count test (suc lo) n + count test (suc (lo + n)) m
          → cond b (suc (count test (suc lo) (n + m))) (count test (suc lo) (n + m)) ≡ cond b (suc (count test (suc lo) n)) (count test (suc lo) n) + count test (suc (lo + n)) m
      step true rest = rw (rest, suc-add)
      step false rest = rest
