-- Ranges of numbers: from the orders to a test and back; what a list of ranges says of every number
-- between two bounds; and where a number lies whose value is known. In order: `within`; `look`
-- forwards (`look-between`, `look-above`); `look` backwards (`look-inside`, and with any statement
-- of the value `look-cases`).
use mathlib.Core.Path.{◌≡◌, refl}
use mathlib.Core.Bool.{Bool, true, false, cond, ◌&&◌, ◌||◌}
use mathlib.Core.Logic.{◌⊎◌, inl, inr, ⊎_elim}
use mathlib.Core.List.{List, [], ◌∷◌}
use Prim.Native.Nat.{ℕ, suc, suc-le-suc, ◌≤◌, ◌<◌}
use native.Mathlib.Nat.{le_trans}
use lib.Dec.{T, leb}
use borrow.Author.Tests.{leb-true, leb-false, le-leb, lt-leb}
use Rattle.laws.specs.Ranges.{within, Range, range, look}
use Rattle.laws.proofs.Bools.{and_left, and_right, and-not-right, and_cases, and-T-left, and-T-right, T_true}

-- ---- one range

module _ (lo hi c : ℕ) where
  pub within-yes : lo ≤ c → c ≤ hi → within lo hi c ≡ true
  unfolding within
  within-yes h k = rw (le-leb lo c h) (le-leb c hi k)

  pub within-below : c < lo → within lo hi c ≡ false
  unfolding within
  within-below h = rw (lt-leb lo c h)

  pub within-above : hi < c → within lo hi c ≡ false
  unfolding within
  within-above h = and-not-right (leb lo c) (leb c hi) (lt-leb c hi h)

  pub within-least : within lo hi c ≡ true → lo ≤ c
  unfolding within
  within-least e = leb-true lo c (and_left (leb lo c) (leb c hi) e)

  pub within-most : within lo hi c ≡ true → c ≤ hi
  unfolding within
  within-most e = leb-true c hi (and_right (leb lo c) (leb c hi) e)

  pub within-not : within lo hi c ≡ false → (c < lo) ⊎ (hi < c)
  unfolding within
  within-not e = ⊎_elim (λ h. inl (leb-false lo c h)) (λ h. inr (leb-false c hi h)) (and_cases (leb lo c) (leb c hi) e)

-- ---- a list of ranges, forwards

module _ {V' : Type 0} (none : V') where
  -- what the list gives between lo and hi, where no range begins or ends inside
  abbrev pub between : ℕ → ℕ → List (Range V') → V'
  between lo hi [] = none
  between lo hi (range a b v ∷ rs) = cond (leb a lo && leb hi b) v (between lo hi rs)

-- each range has all from lo to hi, or lies after hi, or before lo
abbrev pub uncut : {V' : Type 0} → ℕ → ℕ → List (Range V') → Bool
uncut lo hi [] = true
uncut lo hi (range a b v ∷ rs) = (leb a lo && leb hi b) || ((leb (suc hi) a || leb (suc b) lo) && uncut lo hi rs)

module _ {V' : Type 0} (none : V') (lo hi c : ℕ) (least : lo ≤ c) (most : c ≤ hi) where
  -- one range in front of the list rs, by the three tests that `uncut` makes
  one_more : (a b : ℕ) (v : V') (rs : List (Range V')) (covers after before : Bool)
      → (leb a lo && leb hi b) ≡ covers → leb (suc hi) a ≡ after → leb (suc b) lo ≡ before
      → T (covers || ((after || before) && uncut lo hi rs))
      → (T (uncut lo hi rs) → look none c rs ≡ between none lo hi rs)
      → look none c (range a b v ∷ rs) ≡ cond covers v (between none lo hi rs)
  one_more a b v rs true q r e f g t rest =
      simp (within-yes a b c (le_trans (leb-true a lo (and_left (leb a lo) (leb hi b) e)) least) (le_trans most (leb-true hi b (and_right (leb a lo) (leb hi b) e))))
  one_more a b v rs false true r e f g t rest = simp (within-below a b c (le_trans (suc-le-suc most) (leb-true (suc hi) a f))) (rest t)
  one_more a b v rs false false true e f g t rest = simp (within-above a b c (le_trans (leb-true (suc b) lo g) least)) (rest t)
  one_more a b v rs false false false e f g t rest = absurd t

  -- THE DECISION BETWEEN TWO BOUNDS: the test `uncut` computes, and so does `between`
  pub look-between : (rs : List (Range V')) → T (uncut lo hi rs) → look none c rs ≡ between none lo hi rs
  look-between [] t = refl
  look-between (range a b v ∷ rs) t =
      one_more a b v rs (leb a lo && leb hi b) (leb (suc hi) a) (leb (suc b) lo) refl refl refl t (λ u. look-between rs u)

-- every range ends at hi or before, so that the list has no value for a number after hi
abbrev pub up_to : {V' : Type 0} → ℕ → List (Range V') → Bool
up_to hi [] = true
up_to hi (range a b v ∷ rs) = leb b hi && up_to hi rs

pub look-above : {V' : Type 0} (none : V') (hi c : ℕ) → hi < c → (rs : List (Range V')) → T (up_to hi rs) → look none c rs ≡ none
look-above none hi c h [] t = refl
look-above none hi c h (range a b v ∷ rs) t =
    simp (within-above a b c (le_trans (suc-le-suc (leb-true b hi (T_true _ (and-T-left (leb b hi) (up_to hi rs) t)))) h))
    (look-above none hi c h rs (and-T-right (leb b hi) (up_to hi rs) t))

-- ---- backwards

abbrev or_else : Bool → Type 0 → Type 0 → Type 0
or_else true A B = A ⊎ B
or_else false A B = B

or-here : (b : Bool) (A B : Type 0) → T b → A → or_else b A B
or-here true A B t x = inl x
or-here false A B t x = absurd t

or_later : (b : Bool) (A B : Type 0) → B → or_else b A B
or_later true A B x = inr x
or_later false A B x = x

module _ {V' : Type 0} (none : V') (f : V' → Bool) (c : ℕ) where
  -- c lies in a range of the list whose value passes f, or in none and `none` passes: computes to
  -- the sum of those ranges
  abbrev pub Inside : List (Range V') → Type 0
  Inside [] = T (f none)
  Inside (range lo hi v ∷ rs) = or_else (f v) ((lo ≤ c) × (c ≤ hi)) (Inside rs)

  pub look-inside : (rs : List (Range V')) → T (f (look none c rs)) → Inside rs
  look-inside [] t = t
  look-inside (range lo hi v ∷ rs) t = by (within lo hi c) refl t (look-inside rs)
    where
      by : (b : Bool) → within lo hi c ≡ b → T (f (cond b v (look none c rs))) → (T (f (look none c rs)) → Inside rs) → Inside (range lo hi v ∷ rs)
      by true e t rest = or-here (f v) _ _ t (within-least lo hi c e, within-most lo hi c e)
      by false e t rest = or_later (f v) _ _ (rest t)

-- ---- backwards, with what holds of the value

module _ {V' : Type 0} (none : V') (P : V' → Type 0) (c : ℕ) where
  -- c lies in a range of the list and P holds of the range's value, or P holds of `none`: computes
  -- to the sum of all ranges
  abbrev pub Cases : List (Range V') → Type 0
  Cases [] = P none
  Cases (range lo hi v ∷ rs) = ((lo ≤ c) × ((c ≤ hi) × P v)) ⊎ Cases rs

  pub look-cases : (rs : List (Range V')) → P (look none c rs) → Cases rs
  look-cases [] p = p
  look-cases (range lo hi v ∷ rs) p = by (within lo hi c) refl p (look-cases rs)
    where
      by : (b : Bool) → within lo hi c ≡ b → P (cond b v (look none c rs)) → (P (look none c rs) → Cases rs) → Cases (range lo hi v ∷ rs)
      by true e p rest = inl (within-least lo hi c e, (within-most lo hi c e, p))
      by false e p rest = inr (rest p)
