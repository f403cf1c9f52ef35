-- Laws of strings. In order: `same` says that two strings are equal, and `begins` that the one goes
-- on after the other; both by their lengths, and `begins` at an index; a table's rule by a computed
-- test (`every-all`, `packed-distinct`); and three strings that are put together are known again
-- (`split-once`): what stands before the letters of a set, these letters, and what stands after
-- them.
use mathlib.Core.Path.{◌≡◌, refl, sym, ◌∙◌, ap}
use mathlib.Core.Bool.{Bool, true, false, ◌&&◌, true≢false, false≢true}
use mathlib.Core.List.{List, [], ◌∷◌, ◌++◌, map}
use Prim.Native.Nat.{ℕ, suc, ◌+◌, ◌*◌, ◌≤◌, ◌<◌}
use native.Mathlib.Omega.{arith}
use lib.Dec.{T, eqb}
use lib.ListN.{length, get_or, drop, length-append, length-map, get_or-map}
use borrow.Author.Tests.{eqb-true, eq-eqb, ne_eqb}
use Rattle.laws.specs.Lists.{All, none, also}
use Rattle.laws.specs.Strings.{same, begins, picked, Distinct, Separable}
use Rattle.laws.proofs.Bools.{test, and_left, and_right, and-T-left, and-T-right}
use Rattle.laws.proofs.Lists.{cut-back, at-index, all-at}
use Rattle.laws.proofs.Tables.{every, distinct, distinct-at}

-- ---- same

pub same_true : (x y : List ℕ) → same x y ≡ true → x ≡ y
same_true [] [] e = refl
same_true [] (b ∷ y) e = absurd (false≢true e)
same_true (a ∷ x) [] e = absurd (false≢true e)
same_true (a ∷ x) (b ∷ y) e =
    let head = eqb-true a b (and_left (eqb a b) (same x y) e) in
    let tail = same_true x y (and_right (eqb a b) (same x y) e) in
    cc

pub same_refl : (x : List ℕ) → same x x ≡ true
same_refl [] = refl
same_refl (a ∷ x) = simp (eq-eqb a a refl) (same_refl x)

pub same_false : (x y : List ℕ) → same x y ≡ false → x ≡ y → ⊥
same_false x y e q = true≢false (sym (same_refl x) ∙ ap (same x) q ∙ e)

pub not_same : (x y : List ℕ) → (x ≡ y → ⊥) → same x y ≡ false
not_same x y h = test (same x y) (λ e. absurd (h (same_true x y e))) (λ e. e)

-- ---- begins

-- what stands after x
pub begins-after : (x y : List ℕ) → begins x y ≡ true → y ≡ x ++ drop (length x) y
begins-after [] y e = refl
begins-after (a ∷ x) [] e = absurd (false≢true e)
begins-after (a ∷ x) (b ∷ y) e =
    let head = eqb-true a b (and_left (eqb a b) (begins x y) e) in
    let tail = begins-after x y (and_right (eqb a b) (begins x y) e) in
    cc

pub begins-true : (x y : List ℕ) → begins x y ≡ true → (z : List ℕ) × (y ≡ x ++ z)
begins-true x y e = (drop (length x) y, begins-after x y e)

pub begins-append : (x z : List ℕ) → begins x (x ++ z) ≡ true
begins-append [] z = refl
begins-append (a ∷ x) z = simp (eq-eqb a a refl) (begins-append x z)

pub begins-false : (x y : List ℕ) → begins x y ≡ false → (z : List ℕ) → y ≡ x ++ z → ⊥
begins-false x y e z q = true≢false (sym (begins-append x z) ∙ ap (begins x) (sym q) ∙ e)

pub not-begins : (x y : List ℕ) → ((z : List ℕ) → y ≡ x ++ z → ⊥) → begins x y ≡ false
not-begins x y h = test (begins x y) (λ e. absurd (h (drop (length x) y) (begins-after x y e))) (λ e. e)

-- ---- by the lengths

pub begins-least : (x y : List ℕ) → begins x y ≡ true → length x ≤ length y
begins-least x y e = omega (arith, simp length-append at (ap length (begins-after x y e)))

pub begins-short : (x y : List ℕ) → length y < length x → begins x y ≡ false
begins-short x y h = not-begins x y (λ z e. omega (arith, simp length-append at (ap length e)))

pub same-other-length : (x y : List ℕ) → (length x ≡ length y → ⊥) → same x y ≡ false
same-other-length x y h = not_same x y (λ e. h (ap length e))

-- of two strings as long, the one begins with the other where they are the same
pub same-begins : (x y : List ℕ) → length x ≡ length y → same x y ≡ begins x y
same-begins [] [] h = refl
same-begins [] (b ∷ y) h = absurd (omega arith)
same-begins (a ∷ x) [] h = absurd (omega arith)
same-begins (a ∷ x) (b ∷ y) h = ap (λ (t : Bool). eqb a b && t) (same-begins x y (omega arith))

-- ---- begins, at an index of the text l:
-- of a string whose first letter is a, and at the same index of a string

module _ (a : ℕ) (x l : List ℕ) (at : ℕ) (inside : at < length l) where
  pub begins-here : get_or l at 0 ≡ a → begins (a ∷ x) (drop at l) ≡ begins x (drop (at + 1) l)
  begins-here e = simp (at-index 0 l at inside, eq-eqb a (get_or l at 0) (sym e))

  pub begins-not-here : (get_or l at 0 ≡ a → ⊥) → begins (a ∷ x) (drop at l) ≡ false
  begins-not-here h = simp (at-index 0 l at inside, ne_eqb a (get_or l at 0) (λ e. h (sym e)))

module _ (x l : List ℕ) (at : ℕ) (inside-x : at < length x) (inside : at < length l) where
  pub begins-on : get_or l at 0 ≡ get_or x at 0 → begins (drop at x) (drop at l) ≡ begins (drop (at + 1) x) (drop (at + 1) l)
  begins-on e =
      ap (λ (y : List ℕ). begins y (drop at l)) (at-index 0 x at inside-x) ∙ begins-here (get_or x at 0) (drop (at + 1) x) l at inside e

  pub begins-not-on : (get_or l at 0 ≡ get_or x at 0 → ⊥) → begins (drop at x) (drop at l) ≡ false
  begins-not-on h =
      ap (λ (y : List ℕ). begins y (drop at l)) (at-index 0 x at inside-x) ∙ begins-not-here (get_or x at 0) (drop (at + 1) x) l at inside h

-- ---- a table's rule by a computed test

-- every entry has P, where a test that says so passes at each
pub every-all : {A : Type 0} {P : A → Type 0} (f : A → Bool) → ((a : A) → T (f a) → P a) → (l : List A) (i : ℕ) → T (every (λ n a. f a) i l)
    → All P l
every-all f h [] i t = none
every-all f h (a ∷ l) i t =
    also (h a (and-T-left (f a) (every (λ n a. f a) (suc i) l) t)) (every-all f h l (suc i) (and-T-right (f a) (every (λ n a. f a) (suc i) l) t))

-- a string of bytes as one number
abbrev pub packed : List ℕ → ℕ
packed [] = 0
packed (c ∷ x) = c + 256 * packed x

pub packed-distinct : (A : List (List ℕ)) → T (distinct (map packed A)) → Distinct A
packed-distinct A t i j h k e =
    distinct-at (map packed A) i j t (rw (length-map A packed) h) (rw (length-map A packed) k)
    (get_or-map packed A i [] ∙ ap packed e ∙ sym (get_or-map packed A j []))

-- ---- three strings put together

module _ (in_set : ℕ → Bool) (b : Bool) where
  -- the first letter is not one of those at which the set's test gives b
  abbrev Ends : List ℕ → Type 0
  Ends u = (c : ℕ) (z : List ℕ) → u ≡ c ∷ z → in_set c ≡ b → ⊥

  -- two strings of such letters before two that do not begin with one
  run-front : (x y u v : List ℕ) → All (λ c. in_set c ≡ b) x → All (λ c. in_set c ≡ b) y → Ends u → Ends v → x ++ u ≡ y ++ v → x ≡ y
  run-front [] [] u v p q h k e = refl
  run-front [] (c ∷ y) u v p (also r q) h k e = absurd (h c (y ++ v) e r)
  run-front (c ∷ x) [] u v (also r p) q h k e = absurd (k c (x ++ u) (sym e) r)
  run-front (c ∷ x) (d ∷ y) u v (also r p) (also s q) h k e = let tail = run-front x y u v p q h k (cc) in cc

  -- a string of other letters, and one such that is not empty before any other
  ends-other : {o : Bool} → (o ≡ b → ⊥) → (x : List ℕ) → All (λ c. in_set c ≡ o) x → Ends x
  ends-other n [] p c z e r = absurd (omega (arith, ap length e))
  ends-other n (a ∷ x) (also q p) c z e r = n (sym q ∙ (let same : a ≡ c = cc in cc))

  ends_some : {o : Bool} → (o ≡ b → ⊥) → (x u : List ℕ) → All (λ c. in_set c ≡ o) x → (x ≡ [] → ⊥) → Ends (x ++ u)
  ends_some n [] u p some c z e r = absurd (some refl)
  ends_some n (a ∷ x) u (also q p) some c z e r = n (sym q ∙ (let same : a ≡ c = cc in cc))

-- THREE STRINGS ARE PUT TOGETHER IN ONE WAY
module _ {in_set : ℕ → Bool} {A B C : List (List ℕ)} (s : Separable in_set A B C) (i p f j q g : ℕ) (hi : i < length A) (hj : j < length A)
    (hp : p < length B) (hq : q < length B) (hf : f < length C) (hg : g < length C) (e : picked A B C i p f ≡ picked A B C j q g) where
  second-ends : (k : ℕ) → k < length B → (u : List ℕ) → Ends in_set false (get_or B k [] ++ u)
  second-ends k h u = ends_some in_set false true≢false (get_or B k []) u (all-at [] s.second-full k h) (all-at [] s.second-some k h)

  third-ends : (k : ℕ) → k < length C → Ends in_set true (get_or C k [])
  third-ends k h = ends-other in_set true false≢true (get_or C k []) (all-at [] s.third-free k h)

  firsts : get_or A i [] ≡ get_or A j []
  firsts =
      run-front in_set false (get_or A i []) (get_or A j []) (get_or B p [] ++ get_or C f []) (get_or B q [] ++ get_or C g []) (all-at [] s.first-free i hi)
      (all-at [] s.first-free j hj) (second-ends p hp (get_or C f [])) (second-ends q hq (get_or C g [])) e

  after : get_or B p [] ++ get_or C f [] ≡ get_or B q [] ++ get_or C g []
  after = cut-back (get_or A i []) (get_or B p [] ++ get_or C f []) (get_or A j []) (get_or B q [] ++ get_or C g []) e (ap length firsts)

  seconds : get_or B p [] ≡ get_or B q []
  seconds =
      run-front in_set true (get_or B p []) (get_or B q []) (get_or C f []) (get_or C g []) (all-at [] s.second-full p hp) (all-at [] s.second-full q hq)
      (third-ends f hf) (third-ends g hg) after

  thirds : get_or C f [] ≡ get_or C g []
  thirds = cut-back (get_or B p []) (get_or C f []) (get_or B q []) (get_or C g []) after (ap length seconds)

  pub split-once : (i ≡ j) × (p ≡ q) × (f ≡ g)
  split-once = (s.first-distinct i j hi hj firsts, s.second-distinct p q hp hq seconds, s.third-distinct f g hf hg thirds)
