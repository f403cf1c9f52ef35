-- The rules R1 and R2 of D117, over any database: `last_starter` finds the last starter, and what
-- becomes of a character C by what stands last before it, a starter or a mark.
--
-- In order: `last_starter` finds the last starter (`last-starter-found`); where that is when one
-- character more stands at the end; C after a starter (`combined-starter`); C after a mark
-- (`combined-mark`).
use mathlib.Core.Path.{◌≡◌, refl, ap}
use mathlib.Core.Bool.{Bool, true, false, cond, ◌||◌}
use mathlib.Core.Logic.{◌⊎◌, ⊎_elim}
use mathlib.Core.Option.{none}
use mathlib.Core.List.{List, [], ◌∷◌, ◌++◌}
use Prim.Native.Nat.{ℕ}
use native.Mathlib.Omega.{arith}
use lib.Dec.{eqb}
use borrow.Author.Tests.{eqb-false, le-leb}
use Rattle.laws.proofs.Bools.{test, and-not-right}
use Rattle.normal.specs.Forms.{Database, starter, exists, blocks, blocked, Sought, nowhere, last, further, last_starter, Found, with_composite, unblocked, combined}

-- ---- helpers: tests, and what was found with one character more after it

or-true : (t : Bool) → t || true ≡ true
or-true true = refl
or-true false = refl

either_way : {A : Type 0} (t : Bool) (x : A) → cond t x x ≡ x
either_way true x = refl
either_way false x = refl

exists-last : (f : ℕ → Bool) (x : List ℕ) (a : ℕ) → f a ≡ true → exists f (x ++ a ∷ []) ≡ true
exists-last f [] a h = rw h
exists-last f (b ∷ x) a h = rw (exists-last f x a h) (or-true (f b))

after : ℕ → Sought → Sought
after a nowhere = nowhere
after a (last before l between) = last before l (between ++ a ∷ [])

module _ (db : Database) where
  -- ---- R1

  -- WHAT IS FOUND IS THE LAST STARTER
  pub last-starter-found : (x : List ℕ) → Found db x (last_starter db x)
  last-starter-found [] = refl
  last-starter-found (a ∷ x) = more (last_starter db x) (last-starter-found x)
    where
      first : exists (starter db) x ≡ false → (t : Bool) → starter db a ≡ t → Found db (a ∷ x) (cond t (last [] a x) nowhere)
      first h true e = (refl, e, h)
      first h false e = rw (e, h)

      more : (s : Sought) → Found db x s → Found db (a ∷ x) (further db a x s)
      more nowhere h = first h (starter db a) refl
      more (last u l v) h = (ap (λ (y : List ℕ). a ∷ y) h.0, h.1, h.2)

  -- a starter at the end is the last one; before a mark at the end it is the one that it was
  last-starter-at-end : (x : List ℕ) (a : ℕ) → starter db a ≡ true → last_starter db (x ++ a ∷ []) ≡ last x a []
  last-starter-at-end [] a h = rw h
  last-starter-at-end (b ∷ x) a h = rw (last-starter-at-end x a h)

  last-starter-before-mark : (x : List ℕ) (a : ℕ) → starter db a ≡ false → last_starter db (x ++ a ∷ []) ≡ after a (last_starter db x)
  unfolding after
  last-starter-before-mark [] a h = rw h
  last-starter-before-mark (b ∷ x) a h = rw (last-starter-before-mark x a h) (more (last_starter db x))
    where
      first : (t : Bool) → cond t (last [] b (x ++ a ∷ [])) nowhere ≡ after a (cond t (last [] b x) nowhere)
      first true = refl
      first false = refl

      more : (s : Sought) → further db b (x ++ a ∷ []) (after a s) ≡ after a (further db b x s)
      more nowhere = first (starter db b)
      more (last u l v) = refl

  -- ---- R2

  -- after a starter nothing stands between, and so nothing blocks
  none-blocked : (l c : ℕ) → blocked db l [] c ≡ false
  unfolding blocked
  none-blocked l c = and-not-right (eqb (db.ccc l) 0) false refl

  pub combined-starter : (x : List ℕ) (a c : ℕ) → starter db a ≡ true → combined db (x ++ a ∷ []) c ≡ with_composite (x ++ a ∷ []) c x [] (db.composite a c)
  combined-starter x a c h = rw (last-starter-at-end x a h, none-blocked a c)

  -- D115 at a C that is itself a starter: whatever stands between blocks it
  blocks-starter : (c b : ℕ) → db.ccc c ≡ 0 → blocks db c b ≡ true
  blocks-starter c b k =
      test (eqb (db.ccc b) 0) (λ q. rw q) (λ q. let n = eqb-false (db.ccc b) 0 q in rw (q, k) (le-leb _ (db.ccc b) (omega arith)))

  starter-blocked : (l : ℕ) (x : List ℕ) (a c : ℕ) → starter db l ≡ true → db.ccc c ≡ 0 → blocked db l (x ++ a ∷ []) c ≡ true
  unfolding blocked
  starter-blocked l x a c h k = rw h (exists-last (blocks db c) x a (blocks-starter c a k))

  -- so after a mark C stays, where only starters compose
  pub combined-mark : (x : List ℕ) (a c : ℕ) → starter db a ≡ false → ((l : ℕ) → (db.ccc c ≡ 0) ⊎ (db.composite l c ≡ none))
      → combined db (x ++ a ∷ []) c ≡ (x ++ a ∷ []) ++ c ∷ []
  unfolding after
  combined-mark x a c h only = rw (last-starter-before-mark x a h) (by (last_starter db x) (last-starter-found x))
    where
      by : (s : Sought) → Found db x s → unblocked db (x ++ a ∷ []) c (after a s) ≡ (x ++ a ∷ []) ++ c ∷ []
      by nowhere k = refl
      by (last u l v) k =
          ⊎_elim (λ (q : db.ccc c ≡ 0). rw (starter-blocked l v a c k.1 q))
          (λ (q : db.composite l c ≡ none). rw q (either_way (blocked db l (v ++ a ∷ []) c) ((x ++ a ∷ []) ++ c ∷ []))) (only l)
