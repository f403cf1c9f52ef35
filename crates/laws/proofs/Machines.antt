-- Laws of machines: reading a text in two parts, and where it may be cut. THE CUT LAW: before a
-- fence what a machine writes falls apart into what it writes of each part alone.
--
-- In order: two parts of a text (`outs-append`, `ends-append`, `from-append`, `from-outs`); one
-- letter more at the end (`outs-snoc`, `ends_snoc`); the cut law (`cut`); walls (`wall-fence`,
-- `around`); cuts compose (`splits-after`); a machine that sees no difference between a letter and
-- its parts (`same_whole`); two machines chained, and one that is fed parts (`from-chained`,
-- `from-fed`); how much is written (`outs-most`).
use mathlib.Core.Path.{◌≡◌, refl, sym, ◌∙◌}
use mathlib.Core.List.{List, [], ◌∷◌, ◌++◌, append_assoc, append-nil}
use Prim.Native.Nat.{ℕ, ◌*◌, ◌≤◌}
use native.Mathlib.Nat.{mul-suc}
use native.Mathlib.Omega.{arith}
use lib.ListN.{length, length-append}
use Rattle.laws.specs.Lists.{each}
use Rattle.laws.specs.Machines.{Machine, outs, ends, from, whole, Splits, Fence, Wall, chained, fed}

module _ {S A B : Type 0} (m : Machine S A B) where
  -- ---- two parts of a text

  pub outs-append : (x y : List A) (s : S) → outs m s (x ++ y) ≡ outs m s x ++ outs m (ends m s x) y
  outs-append [] y s = refl
  outs-append (a ∷ x) y s = rw (outs-append x y (m.step s a), append_assoc)

  pub ends-append : (x y : List A) (s : S) → ends m s (x ++ y) ≡ ends m (ends m s x) y
  ends-append [] y s = refl
  ends-append (a ∷ x) y s = ends-append x y (m.step s a)

  pub from-append : (x y : List A) (s : S) → from m s (x ++ y) ≡ outs m s x ++ from m (ends m s x) y
  from-append [] y s = refl
  from-append (a ∷ x) y s = rw (from-append x y (m.step s a), append_assoc)

  -- all that is written: what is written on the way, and then what is still open
  pub from-outs : (x : List A) (s : S) → from m s x ≡ outs m s x ++ m.flush (ends m s x)
  from-outs [] s = refl
  from-outs (a ∷ x) s = rw (from-outs x (m.step s a), append_assoc)

  -- ---- one letter more at the end

  pub outs-snoc : (x : List A) (a : A) (s : S) → outs m s (x ++ (a ∷ [])) ≡ outs m s x ++ m.emit (ends m s x) a
  outs-snoc x a s = rw (outs-append x, append-nil)

  pub ends_snoc : (x : List A) (a : A) (s : S) → ends m s (x ++ (a ∷ [])) ≡ m.step (ends m s x) a
  ends_snoc x a s = ends-append x (a ∷ []) s

  -- ---- THE CUT LAW: a text may be cut before a fence

  cut-from : (x : List A) (a : A) (y : List A) → Fence m a → (s : S) → from m s (x ++ a ∷ y) ≡ from m s x ++ whole m (a ∷ y)
  cut-from [] a y f s = rw (f.forgets s, f.closes s, append_assoc)
  cut-from (b ∷ x) a y f s = rw (cut-from x a y f (m.step s b), append_assoc)

  pub cut : (a : A) (y : List A) → Fence m a → Splits (whole m) (a ∷ y)
  cut a y f x = cut-from x a y f m.start

  -- ---- walls

  pub wall-fence : (a : A) → Wall m a → Fence m a
  wall-fence a w = record { forgets = λ s. w.resets s ∙ sym (w.resets m.start); closes = w.closes }

  -- around a wall: all before it, what it writes itself, all after it
  pub around : (a : A) (x y : List A) → Wall m a → whole m (x ++ a ∷ y) ≡ whole m x ++ (m.emit m.start a ++ whole m y)
  around a x y w = rw (cut a y (wall-fence a w) x, w.resets m.start)

-- ---- cuts compose, whatever the two functions are

pub splits-after : {A B C : Type 0} (g : List B → List C) (f : List A → List B) (z : List A)
    → Splits f z → Splits g (f z) → Splits (λ x. g (f x)) z
splits-after g f z hf hg x = rw (hf x) (hg (f x))

-- ---- a letter a and its parts f a:
-- where reading f a does what reading a does, a text and its parts give the same

pub same_whole : {S A B : Type 0} (m : Machine S A B) (f : A → List A)
    → ((s : S) (a : A) → outs m s (f a) ≡ m.emit s a) → ((s : S) (a : A) → ends m s (f a) ≡ m.step s a)
    → (x : List A) (s : S) → from m s (each f x) ≡ from m s x
unfolding each
same_whole m f o e [] s = refl
same_whole m f o e (a ∷ x) s = rw (from-append m (f a) (each f x) s, o s a, e s a, same_whole m f o e x (m.step s a))

-- ---- two machines chained:
-- what is written is what the second writes of what the first writes

module _ {S T A B C : Type 0} (m : Machine S A B) (n : Machine T B C) where
  pub from-chained : (x : List A) (s : S) (t : T) → from (chained m n) (s, t) x ≡ from n t (from m s x)
  from-chained [] s t = refl
  from-chained (a ∷ x) s t =
      rw (from-append n (m.emit s a) (from m (m.step s a) x) t, from-chained x (m.step s a) (ends n t (m.emit s a)))

-- ---- a machine that is fed the parts of each letter

pub from-fed : {S A B C : Type 0} (f : A → List B) (m : Machine S B C) (x : List A) (s : S) → from (fed f m) s x ≡ from m s (each f x)
unfolding each
from-fed f m [] s = refl
from-fed f m (a ∷ x) s = rw (from-append m (f a) (each f x) s, from-fed f m x (ends m s (f a)))

-- ---- how much is written: at most k for each letter

pub outs-most : {S A B : Type 0} (m : Machine S A B) (k : ℕ) → ((s : S) (a : A) → length (m.emit s a) ≤ k) → (x : List A) (s : S)
    → length (outs m s x) ≤ k * length x
outs-most m k h [] s = omega arith
outs-most m k h (a ∷ x) s = simp (length-append, mul-suc) (omega (arith, h s a, outs-most m k h x (m.step s a)))
