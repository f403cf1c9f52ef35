-- How far damage in the middle of a text reaches, proved once: for every encoding with `Leads` and
-- every transformation with `Cuttable`, a mended text ends with what its ending alone gives and
-- starts with what its beginning alone gives (`keeps`), and it falls apart around each ill-formed
-- part (`around-ill`). Of the places nothing is used here but what proofs/Places says of them.
--
-- In order: code points of pieces put together (`codes-append`); the places are places of the text
-- (`ending-is`, `beginning-is`); where mending may be cut; the beginning (`begin`); ill-formed
-- parts (`around-ill`); the ending (`end`); beginning and ending (`keeps`).
use mathlib.Core.Path.{◌≡◌, refl, sym, ◌∙◌, ap}
use mathlib.Core.List.{List, [], ◌∷◌, ◌++◌, append_assoc, append-nil}
use Prim.Native.Nat.{ℕ}
use Rattle.laws.specs.Machines.{Splits}
use Rattle.laws.proofs.Machines.{cut}
use Rattle.encodings.specs.Pieces.{Piece, good, ill, units_of, cutter, pieces}
use Rattle.encodings.specs.Damage.{Encoding, Transformation, codes, mend, EndsWith, StartsWith, seek, ending, beginning, Kept, Leads, Cuttable}
use Rattle.encodings.specs.Places.{Led, AtPlace, BeginningPlace, BeginningFound, found, none}
use Rattle.encodings.proofs.Pieces.{starts-fence}
use Rattle.encodings.proofs.Seams.{seam, kept}
use Rattle.encodings.proofs.Places.{ending-place, beginning-place}

pub codes-append : {A : Type 0} (e : Encoding A) (P Q : List (Piece A)) → codes e (P ++ Q) ≡ codes e P ++ codes e Q
codes-append e [] Q = refl
codes-append e (w ∷ P) Q = rw (codes-append e P Q)

-- ---- the places are places of the text:
-- the ending is an end of it, and the beginning a start of it

module _ {A B : Type 0} (e : Encoding A) (m : Transformation B) where
  pub ending-is : (z : List A) → EndsWith z (ending e m z)
  ending-is z =
      let p = ending-place e m z in
      (p.loose ++ units_of p.softs, p.text ∙ ap (λ (x : List A). p.loose ++ x) p.sought ∙ sym (append_assoc p.loose _ _))

  pub beginning-is : (b : List A) → StartsWith b (beginning e m b)
  beginning-is b = by (beginning-place e m b)
    where
      by : BeginningFound e m b → StartsWith b (beginning e m b)
      by (found p) = (p.last ++ units_of p.after, p.text)
      by (none h q) = (b, rw q)

-- ---- where mending may be cut

-- a text is read alone from a lead unit on
led-splits : {A : Type 0} (e : Encoding A) → Leads e → (z : List A) → Led e.lead z → Splits (pieces e.kind) z
led-splits e leads [] h = λ x. simp append-nil
led-splits e leads (a ∷ z) h = cut (cutter e.kind) a z (starts-fence e.kind a (leads.starts a h))

module _ {A B : Type 0} (e : Encoding A) (m : Transformation B) (cuttable : Cuttable m) where
  alone-splits : (y : List ℕ) → Splits m.make (0xFFFD ∷ y)
  alone-splits y x = rw (cuttable.alone x y, cuttable.alone [] y, cuttable.empty)

  -- what was read is made alone from a piece on that is ill-formed or not soft
  place-splits : (P : List (Piece A)) → AtPlace e m P → Splits m.make (codes e P)
  place-splits [] h = λ x. rw (append-nil, cuttable.empty, append-nil)
  place-splits (ill u ∷ P) h = alone-splits (codes e P)
  place-splits (good u ∷ P) h = cuttable.cuts (e.code u) h (codes e P)

  -- ---- THE BEGINNING

  pub begin : (b y : List A) → StartsWith (mend e m (b ++ y)) (mend e m (beginning e m b))
  begin b y = by (beginning-place e m b)
    where
      at : BeginningPlace e m b → StartsWith (mend e m (b ++ y)) (mend e m (beginning e m b))
      at p =
          let P = pieces e.kind (beginning e m b) in
          let k = kept e.kind b y P p.last p.after p.read in
          let apart = cuttable.cuts (e.code p.last) p.hard (codes e k.0) (codes e P) in
          (m.make (codes e (good p.last ∷ k.0)), rw (mend, k.1, codes-append e P (good p.last ∷ k.0)) apart)

      by : BeginningFound e m b → StartsWith (mend e m (b ++ y)) (mend e m (beginning e m b))
      by (found p) = at p
      by (none h q) = (mend e m (b ++ y), rw (q, cuttable.empty))

  -- ---- ILL-FORMED PARTS:
  -- around each, what all before it gives, what U+FFFD alone gives, what all after it gives

  pub around-ill : (t : List A) (P : List (Piece A)) (u : List A) (Q : List (Piece A)) → pieces e.kind t ≡ P ++ ill u ∷ Q
      → (t ≡ units_of P ++ (u ++ units_of Q)) × (mend e m t ≡ mend e m (units_of P) ++ (m.make (0xFFFD ∷ []) ++ mend e m (units_of Q)))
  around-ill t P u Q q =
      let h = seam e.kind t P (ill u ∷ Q) q in
      let k = seam e.kind (units_of (ill u ∷ Q)) (ill u ∷ []) Q h.after in
      (h.text, rw (mend, q, h.before, k.after, codes-append e P (ill u ∷ Q), cuttable.alone (codes e P) (codes e Q)))

module _ {A B : Type 0} (e : Encoding A) (m : Transformation B) (leads : Leads e) (cuttable : Cuttable m) where
  -- ---- THE ENDING

  -- S may be read alone, and W of its pieces made alone
  end-at : (x z c S : List A) → z ≡ c ++ S → Splits (pieces e.kind) S → (U W : List (Piece A)) → pieces e.kind S ≡ U ++ W
      → Splits m.make (codes e W) → EndsWith (mend e m (x ++ z)) (m.make (codes e W))
  end-at x z c S q split U W p split_w =
      let F = pieces e.kind (x ++ c) ++ U in
      let read : pieces e.kind (x ++ z) ≡ F ++ W = rw (q, ← append_assoc x c S, split (x ++ c), p, append_assoc) in
      (m.make (codes e F), rw (mend, read, codes-append e F W, split_w (codes e F)))

  pub end : (x z : List A) → EndsWith (mend e m (x ++ z)) (mend e m (ending e m z))
  end x z =
      let p = ending-place e m z in
      let S = seek e.lead z in
      let W = pieces e.kind (ending e m z) in
      end-at x z p.loose S p.text (led-splits e leads S p.led) p.softs W p.read (place-splits e m cuttable W p.at)

  -- ---- THE BEGINNING AND THE ENDING, whatever stands between

  pub keeps : (b c z : List A) → Kept e m b c z
  keeps b c z = record { ends = end (b ++ c) z; starts = rw append_assoc (begin e m cuttable b (c ++ z)) }
