-- THE PIECES ARE THE READING: for every coherent `kind` the machine of specs/Pieces gives the
-- reading of specs/Readings, which is that of the Unicode Standard 15.0, section 3.9. And THE
-- READING IS UNIQUE: pieces found in any other way, if they are such a reading, are the same
-- pieces.
--
-- In order: kinds exclude each other; kinds with more units; where a maximal subpart is; the pieces
-- are the reading (`reading`); the first piece of a reading, and that two are equal; the reading is
-- unique (`unique`, `reading-pieces`); and an ill-formed piece of a reading is a maximal subpart of
-- the text (`reading-broken`).
use mathlib.Core.Path.{◌≡◌, refl, sym, ◌∙◌, ap}
use mathlib.Core.Logic.{◌⊎◌, inl, inr, ⊎_elim}
use mathlib.Core.List.{List, [], ◌∷◌, ◌++◌, append_assoc, append-nil, nil≢cons, head-eq_of_cons-eq, tail-eq_of_cons-eq}
use Prim.Native.Nat.{ℕ, ◌≤◌}
use native.Mathlib.Omega.{arith}
use lib.ListN.{length, length-append}
use Rattle.laws.specs.Machines.{from}
use Rattle.laws.proofs.Lists.{nil-left, cut-front, cut-back, Cuts, short, long, cuts}
use Rattle.encodings.specs.Pieces.{Kind, full, part, bad, Piece, good, ill, units, cutter, pieces}
use Rattle.encodings.specs.Readings.{Completable, Coherent, Subpart, Maximal, Reading, nothing, formed, broken}
use Rattle.encodings.proofs.Pieces.{open_full, open-part, open-bad, goes-full, goes-part, goes-bad}

-- ---- kinds exclude each other

full-bad : {k : Kind} → k ≡ full → k ≡ bad → ⊥
full-bad p q = let z : ◌≡◌ {A = ℕ} 0 1 = cc in omega arith

part-bad : {k : Kind} → k ≡ part → k ≡ bad → ⊥
part-bad p q = let z : ◌≡◌ {A = ℕ} 0 1 = cc in omega arith

part-full : {k : Kind} → k ≡ part → k ≡ full → ⊥
part-full p q = let z : ◌≡◌ {A = ℕ} 0 1 = cc in omega arith

module _ {A : Type 0} (kind : List A → Kind) (co : Coherent kind) where
  -- ---- with more units: what is bad stays bad, and what goes on beyond a full sequence is bad

  stays-bad : (y : List A) (b : A) (p : List A) → kind (b ∷ p) ≡ bad → kind (b ∷ p ++ y) ≡ bad
  stays-bad [] b p h = rw append-nil h
  stays-bad (a ∷ y) b p h = rw append_assoc at (stays-bad y b (p ++ (a ∷ [])) (co.after-bad b p a h))

  beyond-bad : (b : A) (p : List A) (a : A) (z : List A) → kind (b ∷ p ++ (a ∷ [])) ≡ bad → kind (b ∷ p ++ a ∷ z) ≡ bad
  beyond-bad b p a z h = rw append_assoc at (stays-bad z b (p ++ (a ∷ [])) h)

  beyond-full : (u : List A) (a : A) (z : List A) → kind u ≡ full → kind (u ++ a ∷ z) ≡ bad
  beyond-full [] a z h = absurd (full-bad h co.empty)
  beyond-full (b ∷ p) a z h = beyond-bad b p a z (co.after-full b p a h)

  -- ---- b ∷ p is a maximal subpart at the front of b ∷ p ++ t, if it begins as D93b says,
  -- is not well-formed, and does not go on

  module _ (b : A) (p t : List A) (begins : (kind (b ∷ p) ≡ part) ⊎ (length (b ∷ p) ≡ 1)) (not_full : kind (b ∷ p) ≡ full → ⊥)
      (beyond : (a : A) (z y : List A) → t ≡ a ∷ z ++ y → kind (b ∷ p ++ a ∷ z) ≡ bad) where
    not-inside : (x z : List A) → b ∷ p ≡ x ++ z → kind x ≡ full → ⊥
    not-inside [] z e q = full-bad q co.empty
    not-inside (c ∷ x) [] e q = not_full (ap kind (e ∙ append-nil (c ∷ x)) ∙ q)
    not-inside (c ∷ x) (a ∷ z) e q =
        ⊎_elim (λ h. part-bad h (ap kind e ∙ beyond-full (c ∷ x) a z q))
        (λ h. omega (arith, ap length e, length-append (c ∷ x) (a ∷ z)))
        begins

    no-full : (x y : List A) → kind x ≡ full → Cuts (b ∷ p) t x y → ⊥
    no-full x y q (short z h) = not-inside x z h q
    no-full x y q (long a z h k) = full-bad q (ap kind h ∙ beyond a z y k)

    -- what is bad is completed by nothing
    not-begun : (a : A) (z : List A) → kind (b ∷ p ++ a ∷ z) ≡ bad → Completable kind (b ∷ p ++ a ∷ z) → ⊥
    not-begun a z q h = full-bad h.completed (stays-bad h.rest b (p ++ a ∷ z) q)

    no_longer : (x y : List A) → Subpart kind x → Cuts (b ∷ p) t x y → length x ≤ length (b ∷ p)
    no_longer x y q (short z h) = omega (arith, ap length h, length-append x z)
    no_longer x y q (long a z h k) =
        ⊎_elim (λ (f : Completable kind x). absurd (not-begun a z (beyond a z y k) (rw h at f)))
        (λ (f : length x ≡ 1). omega (arith, ap length h, length-append (b ∷ p) (a ∷ z))) q

    maximal : Maximal kind (b ∷ p) t
    maximal = record {
      some = omega arith;
      unconvertible = λ x y e q. no-full x y q (cuts (b ∷ p) t x y e);
      subpart = ⊎_elim (λ (h : kind (b ∷ p) ≡ part). inl (co.completes b p h)) (λ (h : length (b ∷ p) ≡ 1). inr h) begins;
      longest = λ x y e q. no_longer x y q (cuts (b ∷ p) t x y e);
    }

  -- ---- THE PIECES ARE THE READING: of each text, with nothing open and with something open

  abbrev Opened : List A → Type 0
  Opened t = (b : A) (p : List A) → kind (b ∷ p) ≡ part → Reading kind (b ∷ p ++ t) (from (cutter kind) (b ∷ p) t)

  -- the first unit of a text
  first : (a : A) (t : List A) (k : Kind) → kind (a ∷ []) ≡ k → Reading kind t (pieces kind t) → Opened t → Reading kind (a ∷ t) (pieces kind (a ∷ t))
  first a t full q r l = rw (open_full kind a t q) (formed (a ∷ []) q r)
  first a t part q r l = rw (open-part kind a t q) (l a [] q)
  first a t bad q r l =
      rw (open-bad kind a t q)
      (broken (a ∷ []) (maximal a [] t (inr refl) (λ f. full-bad f q) (λ c z y e. stays-bad (c ∷ z) a [] q)) r)

  -- the next unit, with b ∷ p open
  next : (b : A) (p : List A) (a : A) (t : List A) (k : Kind) → kind (b ∷ p ++ (a ∷ [])) ≡ k → kind (b ∷ p) ≡ part
      → Reading kind t (pieces kind t) → Opened t → Reading kind (a ∷ t) (pieces kind (a ∷ t))
      → Reading kind (b ∷ p ++ a ∷ t) (from (cutter kind) (b ∷ p) (a ∷ t))
  next b p a t full q h r l n = rw (goes-full kind b p a t q) (rw append_assoc at (formed (b ∷ p ++ (a ∷ [])) q r))
  next b p a t part q h r l n = rw (goes-part kind b p a t q) (rw append_assoc at (l b (p ++ (a ∷ [])) q))
  next b p a t bad q h r l n = rw (goes-bad kind b p a t q) (broken (b ∷ p) (maximal b p (a ∷ t) (inl h) (λ f. part-full h f) beyond) n)
    where
      beyond : (c : A) (z y : List A) → a ∷ t ≡ c ∷ z ++ y → kind (b ∷ p ++ c ∷ z) ≡ bad
      beyond c z y e = let same : a ≡ c = cc in beyond-bad b p c z (rw same at q)

  -- no unit is left
  at-end : Opened []
  at-end b p h = rw append-nil (rw append-nil at (broken (b ∷ p) (maximal b p [] (inl h) (λ f. part-full h f) (λ a z y e. absurd (nil≢cons e))) nothing))

  both : (t : List A) → Reading kind t (pieces kind t) × Opened t
  both [] = (nothing, at-end)
  both (a ∷ t) =
      let ih = both t in
      let n = first a t (kind (a ∷ [])) refl ih.0 ih.1 in
      (n, λ b p h. next b p a t (kind (b ∷ p ++ (a ∷ []))) refl h ih.0 ih.1 n)

  pub reading : (t : List A) → Reading kind t (pieces kind t)
  reading t = (both t).0

-- ---- the first piece of a reading, by equations:
-- the text and its pieces may be given in another form

data Head {A : Type 0} (kind : List A → Kind) (t : List A) (P : List (Piece A)) : Type 0 where
  head-none : t ≡ [] → P ≡ [] → Head kind t P
  head-full : (u r : List A) (R : List (Piece A)) → t ≡ u ++ r → P ≡ good u ∷ R → kind u ≡ full → Reading kind r R → Head kind t P
  head-ill : (u r : List A) (R : List (Piece A)) → t ≡ u ++ r → P ≡ ill u ∷ R → Maximal kind u r → Reading kind r R → Head kind t P

head : {A : Type 0} {kind : List A → Kind} {t : List A} {P : List (Piece A)} → Reading kind t P → Head kind t P
head nothing = head-none refl refl
head (formed u {t} {P} q r) = head-full u t P refl refl q r
head (broken u {t} {P} m r) = head-ill u t P refl refl m r

module _ {A : Type 0} (kind : List A → Kind) (co : Coherent kind) where
  -- ---- two first pieces of one text are equal

  -- well-formed fronts: a longer one would be bad
  same_full : (u t v s : List A) → u ++ t ≡ v ++ s → kind u ≡ full → kind v ≡ full → u ≡ v
  same_full u t v s e q k = by (cuts u t v s e)
    where
      by : Cuts u t v s → u ≡ v
      by (short [] h) = h ∙ append-nil v
      by (short (a ∷ z) h) = absurd (full-bad q (ap kind h ∙ beyond-full kind co v a z k))
      by (long a z h i) = absurd (full-bad k (ap kind h ∙ beyond-full kind co u a z q))

  -- maximal subparts: neither is longer
  as_long : (u t v s : List A) → u ++ t ≡ v ++ s → Maximal kind u t → Maximal kind v s → length u ≤ length v
  as_long u t v s e m n = n.longest u t (sym e) m.subpart

  same_length : (u t v s : List A) → u ++ t ≡ v ++ s → Maximal kind u t → Maximal kind v s → length u ≡ length v
  same_length u t v s e m n = omega (arith, as_long u t v s e m n, as_long v s u t (sym e) n m)

  not-nil-full : (u t : List A) → u ++ t ≡ [] → kind u ≡ full → ⊥
  not-nil-full u t e q = full-bad q (ap kind (nil-left u t e) ∙ co.empty)

  not-nil-maximal : (u t : List A) → u ++ t ≡ [] → Maximal kind u t → ⊥
  not-nil-maximal u t e m = omega (arith, m.some, ap length (nil-left u t e))

  -- ---- THE READING IS UNIQUE

  module _ (t : List A) (P : List (Piece A)) (again : (Q : List (Piece A)) → Reading kind t Q → P ≡ Q) where
    after-full : (u : List A) (Q : List (Piece A)) → kind u ≡ full → Head kind (u ++ t) Q → good u ∷ P ≡ Q
    after-full u Q q (head-none e f) = absurd (not-nil-full u t e q)
    after-full u Q q (head-full v s R e f k r) =
        let same : u ≡ v = same_full u t v s e q k in
        let rest : t ≡ s = cut-back u t v s e (ap length same) in
        cc (again R (rw rest r))
    after-full u Q q (head-ill v s R e f m r) = absurd (m.unconvertible u t (sym e) q)

    after-ill : (u : List A) (Q : List (Piece A)) → Maximal kind u t → Head kind (u ++ t) Q → ill u ∷ P ≡ Q
    after-ill u Q m (head-none e f) = absurd (not-nil-maximal u t e m)
    after-ill u Q m (head-full v s R e f k r) = absurd (m.unconvertible v s e k)
    after-ill u Q m (head-ill v s R e f n r) =
        let fits : length u ≡ length v = same_length u t v s e m n in
        let same : u ≡ v = cut-front u t v s e fits in
        let rest : t ≡ s = cut-back u t v s e fits in
        cc (again R (rw rest r))

  after_nothing : (Q : List (Piece A)) → Head kind [] Q → [] ≡ Q
  after_nothing Q (head-none e f) = sym f
  after_nothing Q (head-full v s R e f k r) = absurd (not-nil-full v s (sym e) k)
  after_nothing Q (head-ill v s R e f m r) = absurd (not-nil-maximal v s (sym e) m)

  unique-to : {t : List A} {P : List (Piece A)} → Reading kind t P → (Q : List (Piece A)) → Reading kind t Q → P ≡ Q
  unique-to nothing Q s = after_nothing Q (head s)
  unique-to (formed u {t} {P} q r) Q s = after-full t P (λ R k. unique-to r R k) u Q q (head s)
  unique-to (broken u {t} {P} m r) Q s = after-ill t P (λ R k. unique-to r R k) u Q m (head s)

  pub unique : {t : List A} {P Q : List (Piece A)} → Reading kind t P → Reading kind t Q → P ≡ Q
  unique {Q = Q} r s = unique-to r Q s

  -- a reading, however it was found, is the pieces
  pub reading-pieces : {t : List A} {P : List (Piece A)} → Reading kind t P → P ≡ pieces kind t
  reading-pieces {t} r = unique r (reading kind co t)

-- ---- an ill-formed piece stands in the text, and is a maximal subpart there

pub record Broken {A : Type 0} (kind : List A → Kind) (t u : List A) : Type 0 where
  pub before : List A
  pub after : List A
  pub text : t ≡ before ++ (u ++ after)
  pub maximal : Maximal kind u after

good-ill : {A : Type 0} {u v : List A} → good u ≡ ill v → ⊥
good-ill e = let z : ◌≡◌ {A = ℕ} 0 1 = cc in omega arith

-- with more units in front
broken-later : {A : Type 0} {kind : List A → Kind} {t u : List A} (v : List A) → Broken kind t u → Broken kind (v ++ t) u
broken-later {A} v h = record {
  before = v ++ h.before;
  after = h.after;
  text = rw append_assoc (ap (λ (x : List A). v ++ x) h.text);
  maximal = h.maximal;
}

broken-in : {A : Type 0} {kind : List A → Kind} {t : List A} {R : List (Piece A)} → Reading kind t R → (P : List (Piece A)) (u : List A)
    (Q : List (Piece A)) → R ≡ P ++ ill u ∷ Q → Broken kind t u
broken-in nothing [] u Q e = absurd (nil≢cons e)
broken-in nothing (w ∷ P) u Q e = absurd (nil≢cons e)
broken-in (formed v k r) [] u Q e = absurd (good-ill (head-eq_of_cons-eq e))
broken-in (formed v k r) (w ∷ P) u Q e = broken-later v (broken-in r P u Q (tail-eq_of_cons-eq e))
broken-in (broken v m r) (w ∷ P) u Q e = broken-later v (broken-in r P u Q (tail-eq_of_cons-eq e))
broken-in {A} (broken v {t} m r) [] u Q e =
    let same = ap units (head-eq_of_cons-eq e) in
    record { before = []; after = t; text = ap (λ (x : List A). x ++ t) same; maximal = rw same at m }

pub reading-broken : {A : Type 0} {kind : List A → Kind} {t : List A} (P : List (Piece A)) (u : List A) (Q : List (Piece A))
    → Reading kind t (P ++ ill u ∷ Q) → Broken kind t u
reading-broken P u Q r = broken-in r P u Q refl
