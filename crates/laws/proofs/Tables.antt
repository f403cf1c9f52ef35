-- A table's rule by one computed test: a test that antt computes over the whole table, and one law
-- that turns it into the rule at each entry. In order: every entry passes (`every-at`); no two
-- entries are equal (`distinct-at`); what is none of the entries is absent (`absent-all`).
use mathlib.Core.Path.{◌≡◌, refl, sym, ap}
use mathlib.Core.Bool.{Bool, true, not, ◌&&◌}
use mathlib.Core.List.{List, [], ◌∷◌}
use Prim.Native.Nat.{ℕ, zero, suc, ◌+◌, ◌<◌}
use native.Mathlib.Nat.{add-zero, zero-add, add-suc, suc-add, le_of_suc-le-suc, not-suc-le-zero}
use lib.Dec.{T, eqb}
use lib.ListN.{length, get_or}
use borrow.Author.Tests.{eq-eqb, ne_eqb}
use Rattle.laws.specs.Lists.{All, none, also}
use Rattle.laws.proofs.Bools.{and-T-left, and-T-right}

-- ---- every entry passes

-- the test passes at each entry and its index, counted from i
abbrev pub every : {A : Type 0} → (ℕ → A → Bool) → ℕ → List A → Bool
every f i [] = true
every f i (x ∷ xs) = f i x && every f (suc i) xs

module _ {A : Type 0} (f : ℕ → A → Bool) (d : A) where
  every-from : (xs : List A) (i : ℕ) → T (every f i xs) → (k : ℕ) → k < length xs → T (f (i + k) (get_or xs k d))
  every-from [] i t k h = absurd (not-suc-le-zero h)
  every-from (x ∷ xs) i t zero h = rw add-zero (and-T-left (f i x) (every f (suc i) xs) t)
  every-from (x ∷ xs) i t (suc k) h =
      rw (add-suc, ← (suc-add i k)) (every-from xs (suc i) (and-T-right (f i x) (every f (suc i) xs) t) k (le_of_suc-le-suc h))

  pub every-at : (xs : List A) → T (every f 0 xs) → (k : ℕ) → k < length xs → T (f k (get_or xs k d))
  every-at xs t k h = rw zero-add at (every-from xs 0 t k h)

-- ---- no two entries are equal

abbrev pub absent : ℕ → List ℕ → Bool
absent x [] = true
absent x (y ∷ ys) = not (eqb x y) && absent x ys

abbrev pub distinct : List ℕ → Bool
distinct [] = true
distinct (x ∷ xs) = absent x xs && distinct xs

absent-at : (x : ℕ) (ys : List ℕ) (j : ℕ) → T (absent x ys) → j < length ys → x ≡ get_or ys j 0 → ⊥
absent-at x [] j t h e = not-suc-le-zero h
absent-at x (y ∷ ys) zero t h e = simp (eq-eqb x y e) at (and-T-left (not (eqb x y)) (absent x ys) t)
absent-at x (y ∷ ys) (suc j) t h e = absent-at x ys j (and-T-right (not (eqb x y)) (absent x ys) t) (le_of_suc-le-suc h) e

pub distinct-at : (xs : List ℕ) (i j : ℕ) → T (distinct xs) → i < length xs → j < length xs → get_or xs i 0 ≡ get_or xs j 0 → i ≡ j
distinct-at [] i j t h k e = absurd (not-suc-le-zero h)
distinct-at (x ∷ xs) zero zero t h k e = refl
distinct-at (x ∷ xs) zero (suc j) t h k e = absurd (absent-at x xs j (and-T-left (absent x xs) (distinct xs) t) (le_of_suc-le-suc k) e)
distinct-at (x ∷ xs) (suc i) zero t h k e = absurd (absent-at x xs i (and-T-left (absent x xs) (distinct xs) t) (le_of_suc-le-suc h) (sym e))
distinct-at (x ∷ xs) (suc i) (suc j) t h k e =
    ap suc (distinct-at xs i j (and-T-right (absent x xs) (distinct xs) t) (le_of_suc-le-suc h) (le_of_suc-le-suc k) e)

pub absent-all : (x : ℕ) {ys : List ℕ} → All (λ y. x ≡ y → ⊥) ys → absent x ys ≡ true
absent-all x none = refl
absent-all x (also {a = y} h p) = simp (ne_eqb x y h, absent-all x p)
