-- What NFD and NFC make of a text depends on the database only at the text's own characters and at
-- those that they lead to: two databases that agree there give the same forms.
--
-- In order: what to agree means (`Agree`, `AgreePairs`); lists of such characters; the depth, which
-- is no matter; NFD (`nfd-agree`); NFC (`nfc-agree`); and when the composites agree
-- (`pairs-agree`).
use mathlib.Core.Path.{◌≡◌, refl, sym, ◌∙◌}
use mathlib.Core.Bool.{Bool}
use mathlib.Core.Option.{Option, none, some}
use mathlib.Core.List.{List, [], ◌∷◌, ◌++◌}
use Prim.Native.Nat.{ℕ, zero, suc, ◌+◌}
use native.Mathlib.Omega.{arith}
use Rattle.laws.specs.Lists.{each, All, also}
use Rattle.laws.proofs.Bools.{test}
use Rattle.laws.proofs.Lists.{all_append, all_left, all_right, all_of, all-each-of, each-one, each-each, each_same, each-alone}
use Rattle.normal.specs.Forms.{Database, applied, decomposed, Exchange, here, later, Exchanges, stays, first, moved, ordered, nfd, nfc, exists, blocks, blocked, Sought, nowhere, last, further, last_starter, Found, with_composite, unblocked, combined, proceeding, composed, Primary, Sound, Exact}
use Rattle.normal.proofs.Ordering.{ordered-reordered}
use Rattle.normal.proofs.Composing.{last-starter-found}

-- ---- what to agree means

-- db and std agree at the characters of In, and std's mappings lead to no others
pub record Agree (db std : Database) (In : ℕ → Type 0) : Type 0 where
  pub ccc : (c : ℕ) → In c → db.ccc c ≡ std.ccc c
  pub mapping : (c : ℕ) → In c → db.mapping c ≡ std.mapping c
  pub apart : (c : ℕ) → In c → All In (std.mapping c)

-- nor do std's composites, and db has the same
pub record AgreePairs (db std : Database) (In : ℕ → Type 0) : Type 0 where
  pub composite : (l c : ℕ) → In l → In c → db.composite l c ≡ std.composite l c
  pub made : (l c p : ℕ) → In l → In c → std.composite l c ≡ some p → In p

-- ---- lists of such characters

module _ {In : ℕ → Type 0} where
  head_in : {l : ℕ} {v : List ℕ} → All In (l ∷ v) → In l
  head_in (also k r) = k

  tail-in : {l : ℕ} {v : List ℕ} → All In (l ∷ v) → All In v
  tail-in (also k r) = r

  each-agree : (f g : ℕ → List ℕ) → ((c : ℕ) → In c → f c ≡ g c) → {x : List ℕ} → All In x → each f x ≡ each g x
  unfolding each
  each-agree f g h All.none = refl
  each-agree f g h (also {a = c} k r) = rw (h c k, each-agree f g h r)

  exists-agree : (f g : ℕ → Bool) → ((c : ℕ) → In c → f c ≡ g c) → {x : List ℕ} → All In x → exists f x ≡ exists g x
  exists-agree f g h All.none = refl
  exists-agree f g h (also {a = c} k r) = rw (h c k, exists-agree f g h r)

-- to exchange characters brings in no others
module _ {db : Database} {In : ℕ → Type 0} where
  exchange-in : {x y : List ℕ} → Exchange db x y → All In x → All In y
  exchange-in (here e) (also h (also k r)) = also k (also h r)
  exchange-in (later e) (also h r) = also h (exchange-in e r)

  exchanges-in : {x y : List ℕ} → Exchanges db x y → All In x → All In y
  exchanges-in stays h = h
  exchanges-in (first e f) h = exchanges-in f (exchange-in e h)

-- ---- once the mappings have been applied to the end, the depth is no matter

module _ (db : Database) where
  once_more : (d c : ℕ) → each db.mapping (applied db d c) ≡ applied db (suc d) c
  once_more zero c = each-one db.mapping c ∙ sym (each-alone (λ p. p ∷ []) (all_of (λ p. refl) (db.mapping c)))
  once_more (suc d) c =
      each-each db.mapping (applied db d) (db.mapping c)
      ∙ each_same (λ p. each db.mapping (applied db d p)) (applied db (suc d)) (once_more d) (db.mapping c)

  deeper : ((c : ℕ) → each db.mapping (applied db db.depth c) ≡ applied db db.depth c)
      → (k n : ℕ) → n ≡ k + db.depth → (c : ℕ) → applied db n c ≡ applied db db.depth c
  deeper h zero n e c = let q : n ≡ db.depth = omega arith in rw q
  deeper h (suc k) n e c =
      let q : n ≡ suc (k + db.depth) = omega arith in
      rw (q, ← (once_more (k + db.depth) c), deeper h k (k + db.depth) refl c) (h c)

module _ (db std : Database) (In : ℕ → Type 0) (a : Agree db std In) where
  -- ---- NFD

  applied-in : (d c : ℕ) → In c → All In (applied std d c)
  applied-in zero c h = also h All.none
  applied-in (suc d) c h = all-each-of (applied std d) (applied-in d) (a.apart c h)

  applied-agree : (d c : ℕ) → In c → applied db d c ≡ applied std d c
  applied-agree zero c h = refl
  applied-agree (suc d) c h = rw (a.mapping c h) (each-agree (applied db d) (applied std d) (applied-agree d) (a.apart c h))

  decomposed-in : {x : List ℕ} → All In x → All In (decomposed std x)
  decomposed-in h = all-each-of (applied std std.depth) (applied-in std.depth) h

  pub decomposed-agree : Sound db → Sound std → {x : List ℕ} → All In x → decomposed db x ≡ decomposed std x
  decomposed-agree s t h =
      each-agree (applied db db.depth) (applied std std.depth)
      (λ c k.
      sym (deeper db s.full std.depth (std.depth + db.depth) refl c)
      ∙ applied-agree (std.depth + db.depth) c k
      ∙ deeper std t.full db.depth (std.depth + db.depth) (omega arith) c)
      h

  moved-agree : {b : ℕ} {x : List ℕ} → In b → All In x → moved db b x ≡ moved std b x
  moved-agree h All.none = refl
  moved-agree {b} h (also {a = c} k r) = rw (a.ccc b h, a.ccc c k, moved-agree h r)

  ordered-in : {x : List ℕ} → All In x → All In (ordered std x)
  ordered-in {x} h = exchanges-in (ordered-reordered std x).exchanged h

  ordered-agree : {x : List ℕ} → All In x → ordered db x ≡ ordered std x
  ordered-agree All.none = refl
  ordered-agree (also k r) = rw (ordered-agree r) (moved-agree k (ordered-in r))

  pub nfd-in : {x : List ℕ} → All In x → All In (nfd std x)
  nfd-in h = ordered-in (decomposed-in h)

  -- THE SAME NFD
  pub nfd-agree : Sound db → Sound std → {x : List ℕ} → All In x → nfd db x ≡ nfd std x
  nfd-agree s t h = rw (decomposed-agree s t h) (ordered-agree (decomposed-in h))

  -- ---- NFC

  last-starter-agree : {x : List ℕ} → All In x → last_starter db x ≡ last_starter std x
  last-starter-agree All.none = refl
  last-starter-agree (also {a = c} {x = x} k r) = rw (last-starter-agree r) (more (last_starter std x))
    where
      more : (s : Sought) → further db c x s ≡ further std c x s
      more nowhere = rw (a.ccc c k)
      more (last u l v) = refl

  blocked-agree : {l c : ℕ} {v : List ℕ} → In l → All In v → In c → blocked db l v c ≡ blocked std l v c
  unfolding blocked
  blocked-agree {l} {c} h j k = rw (a.ccc l h, exists-agree (blocks db c) (blocks std c) (λ b q. rw (a.ccc b q, a.ccc c k)) j)

  module _ (b : AgreePairs db std In) where
    combined-agree : {x : List ℕ} {c : ℕ} → All In x → In c → combined db x c ≡ combined std x c
    combined-agree {x} {c} h k = rw (last-starter-agree h) (by (last_starter std x) (last-starter-found std x))
      where
        by : (s : Sought) → Found std x s → unblocked db x c s ≡ unblocked std x c s
        by nowhere f = refl
        by (last u l v) f =
            let r : All In (l ∷ v) = all_right u (l ∷ v) (rw f.0 at h) in
            rw (blocked-agree (head_in r) (tail-in r) k, b.composite l c (head_in r) k)

    combined-in : {x : List ℕ} {c : ℕ} → All In x → In c → All In (combined std x c)
    combined-in {x} {c} h k = by (last_starter std x) (last-starter-found std x)
      where
        stays : All In (x ++ c ∷ [])
        stays = all_append h (also k All.none)

        composes : (u : List ℕ) (l : ℕ) (v : List ℕ) → All In (u ++ l ∷ v) → (o : Option ℕ) → std.composite l c ≡ o → All In (with_composite x c u v o)
        composes u l v w none e = stays
        composes u l v w (some p) e =
            let r : All In (l ∷ v) = all_right u (l ∷ v) w in
            all_append (all_left u (l ∷ v) w) (also (b.made l c p (head_in r) k e) (tail-in r))

        by : (s : Sought) → Found std x s → All In (unblocked std x c s)
        by nowhere f = stays
        by (last u l v) f = test (blocked std l v c) (λ e. rw e stays) (λ e. rw e (composes u l v (rw f.0 at h) (std.composite l c) refl))

    proceeding-agree : {x y : List ℕ} → All In x → All In y → proceeding db x y ≡ proceeding std x y
    proceeding-agree h All.none = refl
    proceeding-agree {x = x} h (also {a = a'} k r) = rw (combined-agree h k) (proceeding-agree {x = combined std x a'} (combined-in h k) r)

    composed-agree : {x : List ℕ} → All In x → composed db x ≡ composed std x
    composed-agree All.none = refl
    composed-agree (also k r) = proceeding-agree (also k All.none) r

    -- THE SAME NFC
    pub nfc-agree : Sound db → Sound std → {x : List ℕ} → All In x → nfc db x ≡ nfc std x
    nfc-agree s t h = rw (nfd-agree s t h) (composed-agree (nfd-in h))

-- ---- when the composites agree

-- std has every primary composite (`exact`), each with the mapping that it undoes (`inverse`), and
-- of such characters only such are made (`made`); the same are excluded (`excluded`), and db has no
-- other primary composite that decomposes into such characters (`others`)
module _ (db std : Database) (In : ℕ → Type 0) (a : Agree db std In) (s : Sound db) (t : Sound std) (exact : Exact std)
    (inverse : (l c p : ℕ) → std.composite l c ≡ some p → std.mapping p ≡ l ∷ c ∷ [])
    (made : (l c p : ℕ) → In l → In c → std.composite l c ≡ some p → In p)
    (excluded : (p : ℕ) → In p → db.excluded p ≡ std.excluded p)
    (others : (p : ℕ) → Primary db p → All In (nfd db (p ∷ [])) → In p) where
  one-agree : (p : ℕ) → In p → nfd db (p ∷ []) ≡ nfd std (p ∷ [])
  one-agree p h = nfd-agree db std In a s t (also h All.none)

  two_in : {l c : ℕ} → In l → In c → All In (l ∷ c ∷ [])
  two_in h k = also h (also k All.none)

  pair-forth : (l c p : ℕ) → In l → In c → std.composite l c ≡ some p → db.composite l c ≡ some p
  pair-forth l c p h k e =
      let i : In p = made l c p h k e in
      let m : Primary std p = t.primary l c p e in
      s.listed l c p
      (record { decomposable = λ q. m.decomposable (sym (one-agree p i) ∙ q); admitted = excluded p i ∙ m.admitted })
      (a.mapping p i ∙ inverse l c p e)

  pair-back : (l c p : ℕ) → In l → In c → db.composite l c ≡ some p → std.composite l c ≡ some p
  pair-back l c p h k e =
      let m : Primary db p = s.primary l c p e in
      let q : nfd db (p ∷ []) ≡ nfd std (l ∷ c ∷ []) = s.equivalent l c p e ∙ nfd-agree db std In a s t (two_in h k) in
      let i : In p = others p m (rw q (nfd-in db std In a (two_in h k))) in
      exact l c p
      (record { decomposable = λ r. m.decomposable (one-agree p i ∙ r); admitted = sym (excluded p i) ∙ m.admitted })
      (sym (one-agree p i) ∙ q)

  pair-agree : (l c : ℕ) → In l → In c → db.composite l c ≡ std.composite l c
  pair-agree l c h k = by (db.composite l c) refl (std.composite l c) refl
    where
      by : (o : Option ℕ) → db.composite l c ≡ o → (o' : Option ℕ) → std.composite l c ≡ o' → o ≡ o'
      by none e none f = refl
      by none e (some p) f = sym e ∙ pair-forth l c p h k f
      by (some p) e none f = sym (pair-back l c p h k e) ∙ f
      by (some p) e (some p') f = sym (pair-back l c p h k e) ∙ f

  pub pairs-agree : AgreePairs db std In
  pairs-agree = record { composite = pair-agree; made = made }
