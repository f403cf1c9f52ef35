-- `ordered` is what D109 asks for, over any database: it is reached by exchanging reorderable
-- pairs, it has none left, and nothing else is so. In whatever order the pairs are exchanged, the
-- end is the same.
--
-- In order: `ordered` is reached; none is left; where there is none, nothing changes
-- (`ordered_same`); the order of the exchanges is no matter; and the two halves together
-- (`ordered-reordered`, `reordered-ordered`), for NFD too (`nfd-reordered`).
use mathlib.Core.Path.{◌≡◌, refl, sym, ◌∙◌, ap}
use mathlib.Core.Bool.{true, false}
use mathlib.Core.List.{List, [], ◌∷◌}
use Prim.Native.Nat.{ℕ, ◌<◌}
use native.Mathlib.Omega.{arith}
use lib.Dec.{ltb}
use borrow.Author.Tests.{ltb-true, lt-ltb, le-ltb}
use Rattle.laws.proofs.Bools.{test, and_left, and_right}
use Rattle.normal.specs.Forms.{Database, reorderable, Exchange, here, later, Exchanges, stays, first, NoPairWith, NoPair, Reordered, moved, ordered, decomposed, nfd}

module _ (db : Database) where
  -- ---- it is reached

  exchanges-under : (a : ℕ) {x y : List ℕ} → Exchanges db x y → Exchanges db (a ∷ x) (a ∷ y)
  exchanges-under a stays = stays
  exchanges-under a (first e r) = first (later e) (exchanges-under a r)

  exchanges-then : {x y z : List ℕ} → Exchanges db x y → Exchanges db y z → Exchanges db x z
  exchanges-then stays r = r
  exchanges-then (first e q) r = first e (exchanges-then q r)

  moved-reached : (a : ℕ) (x : List ℕ) → Exchanges db (a ∷ x) (moved db a x)
  moved-reached a [] = stays
  moved-reached a (b ∷ x) = test (reorderable db a b) (λ h. rw h (first (here h) (exchanges-under b (moved-reached a x)))) (λ h. rw h stays)

  ordered-reached : (x : List ℕ) → Exchanges db x (ordered db x)
  ordered-reached [] = stays
  ordered-reached (a ∷ x) = exchanges-then (exchanges-under a (ordered-reached x)) (moved-reached a (ordered db x))

  -- ---- none is left

  pair-falls : (a b : ℕ) → reorderable db a b ≡ true → db.ccc b < db.ccc a
  pair-falls a b h = ltb-true (db.ccc b) (db.ccc a) (and_left (ltb (db.ccc b) (db.ccc a)) _ h)

  not_back : (a b : ℕ) → reorderable db a b ≡ true → reorderable db b a ≡ false
  not_back a b h = let z = pair-falls a b h in rw (le-ltb (db.ccc a) (db.ccc b) (omega arith))

  moved-with : (a b : ℕ) (x : List ℕ) → reorderable db a b ≡ true → NoPairWith db b x → NoPairWith db b (moved db a x)
  moved-with a b [] h k = not_back a b h
  moved-with a b (d ∷ x) h k = test (reorderable db a d) (λ e. rw e k) (λ e. rw e (not_back a b h))

  moved_none : (a : ℕ) (x : List ℕ) → NoPair db x → NoPair db (moved db a x)
  moved_none a [] k = (tt, tt)
  moved_none a (b ∷ x) k = test (reorderable db a b) (λ h. rw h (moved-with a b x h k.0, moved_none a x k.1)) (λ h. rw h (h, k))

  ordered-none : (x : List ℕ) → NoPair db (ordered db x)
  ordered-none [] = tt
  ordered-none (a ∷ x) = moved_none a (ordered db x) (ordered-none x)

  -- ---- where there is none, nothing changes

  moved_same : (a : ℕ) (x : List ℕ) → NoPairWith db a x → moved db a x ≡ a ∷ x
  moved_same a [] h = refl
  moved_same a (b ∷ x) h = rw h

  pub ordered_same : (x : List ℕ) → NoPair db x → ordered db x ≡ x
  ordered_same [] h = refl
  ordered_same (a ∷ x) h = rw (ordered_same x h.1) (moved_same a x h.0)

  -- ---- whichever pair is exchanged first, the end is the same

  pair-over : (a b d : ℕ) → reorderable db a b ≡ true → reorderable db b d ≡ true → reorderable db a d ≡ true
  pair-over a b d h k =
      let p = pair-falls a b h in
      let q = pair-falls b d k in
      rw (lt-ltb (db.ccc d) (db.ccc a) (omega arith)) (and_right (ltb (db.ccc d) (db.ccc b)) _ k)

  moved-both : (a b : ℕ) → reorderable db a b ≡ true → (x : List ℕ) → moved db a (moved db b x) ≡ moved db b (moved db a x)
  moved-both a b h [] = rw (h, not_back a b h)
  moved-both a b h (d ∷ x) =
      test (reorderable db b d) (λ p. rw (p, pair-over a b d h p, p) (simp (moved-both a b h x)))
      (λ p. test (reorderable db a d) (λ q. simp (p, q, h)) (λ q. simp (p, q, h, not_back a b h)))

  exchange-same : {x y : List ℕ} → Exchange db x y → ordered db x ≡ ordered db y
  exchange-same (here {a = a} {b = b} {x = x} h) = moved-both a b h (ordered db x)
  exchange-same (later {a = a} e) = ap (λ (y : List ℕ). moved db a y) (exchange-same e)

  exchanges-same : {x y : List ℕ} → Exchanges db x y → ordered db x ≡ ordered db y
  exchanges-same stays = refl
  exchanges-same (first e r) = exchange-same e ∙ exchanges-same r

  -- ---- D109

  -- `ordered` IS SUCH AN ORDERING, AND THERE IS NO OTHER
  pub ordered-reordered : (x : List ℕ) → Reordered db x (ordered db x)
  ordered-reordered x = record { exchanged = ordered-reached x; no_more = ordered-none x }

  pub reordered-ordered : (x y : List ℕ) → Reordered db x y → y ≡ ordered db x
  reordered-ordered x y r = sym (exchanges-same r.exchanged ∙ ordered_same y r.no_more)

  -- and so NFD is D68 as a whole: the decomposed text in D109's order
  pub nfd-reordered : (x : List ℕ) → Reordered db (decomposed db x) (nfd db x)
  nfd-reordered x = ordered-reordered (decomposed db x)
