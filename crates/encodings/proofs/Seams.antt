-- Pieces cut in two. THE SEAM LAW: the pieces of a text may be cut between any two, and each half
-- is what its own units read as. THE KEEPING LAW: a well-formed piece, with all before it, stays
-- whatever is put after the text. For every `kind`, coherent or not.
--
-- In order: the two halves of a text (`Halves`); the seam law (`seam`); the keeping law (`kept`).
use mathlib.Core.Path.{◌≡◌, refl, sym, ◌∙◌, ap}
use mathlib.Core.List.{List, [], ◌∷◌, ◌++◌, append_assoc, nil≢cons, cons≢nil}
use Prim.Native.Nat.{ℕ}
use native.Mathlib.Omega.{arith}
use Rattle.laws.specs.Machines.{from, outs, ends}
use Rattle.laws.proofs.Lists.{nil-left, nil-right}
use Rattle.laws.proofs.Machines.{from-append, from-outs}
use Rattle.encodings.specs.Pieces.{Kind, full, part, bad, Piece, good, ill, units_of, made, left, cut_emit, cut_step, cut_flush, cutter, pieces}
use Rattle.encodings.proofs.Pieces.{units_of-pieces}

-- a text t whose pieces are P and then Q: it is the units of P and then those of Q, and each of the
-- two reads as its own pieces
pub record Halves {A : Type 0} (kind : List A → Kind) (t : List A) (P Q : List (Piece A)) : Type 0 where
  pub text : t ≡ units_of P ++ units_of Q
  pub before : pieces kind (units_of P) ≡ P
  pub after : pieces kind (units_of Q) ≡ Q

-- ---- the seam's place, found unit by unit

-- E is made and n is open, and t gives what is missing to P and then Q: front is as much of t as
-- belongs to P
record Seam {A : Type 0} (kind : List A → Kind) (E : List (Piece A)) (n t : List A) (P Q : List (Piece A)) : Type 0 where
  front : List A
  back : List A
  joined : t ≡ front ++ back
  before : E ++ from (cutter kind) n front ≡ P
  after : pieces kind back ≡ Q

module _ {A : Type 0} (kind : List A → Kind) (t : List A) (Q : List (Piece A)) where
  -- what is shown of every text, by recursion on it: P is not empty, since n may be open where P
  -- ends
  abbrev Found : Type 0
  Found = (n : List A) (u : Piece A) (P : List (Piece A)) → from (cutter kind) n t ≡ u ∷ P ++ Q → Seam kind [] n t (u ∷ P) Q

  -- a piece more in front
  with-piece : (w : Piece A) (E : List (Piece A)) (n : List A) (P : List (Piece A)) → Seam kind E n t P Q → Seam kind (w ∷ E) n t (w ∷ P) Q
  with-piece w E n P s =
      record { front = s.front; back = s.back; joined = s.joined; before = ap (λ (x : List (Piece A)). w ∷ x) s.before; after = s.after }

  -- a unit more in front
  with_unit : (n : List A) (a : A) (P : List (Piece A)) → Seam kind (cut_emit kind n a) (cut_step kind n a) t P Q → Seam kind [] n (a ∷ t) P Q
  with_unit n a P s =
      record { front = a ∷ s.front; back = s.back; joined = ap (λ (x : List A). a ∷ x) s.joined; before = s.before; after = s.after }

  -- a piece w is made and nothing is open
  closed : Found → (w u : Piece A) (P : List (Piece A)) → w ∷ pieces kind t ≡ u ∷ P ++ Q → Seam kind (w ∷ []) [] t (u ∷ P) Q
  closed found w u [] e = record { front = []; back = t; joined = refl; before = cc; after = cc }
  closed found w u (v ∷ P) e =
      let same : w ≡ u = cc in
      rw (← same) (with-piece w [] [] (v ∷ P) (found [] v P (cc)))

  -- the next unit with nothing open, by its kind
  first : Found → (k : Kind) (a : A) (u : Piece A) (P : List (Piece A))
      → made k (a ∷ []) ++ from (cutter kind) (left k (a ∷ [])) t ≡ u ∷ P ++ Q → Seam kind (made k (a ∷ [])) (left k (a ∷ [])) t (u ∷ P) Q
  first found full a u P e = closed found (good (a ∷ [])) u P e
  first found part a u P e = found (a ∷ []) u P e
  first found bad a u P e = closed found (ill (a ∷ [])) u P e

  -- the next unit with b ∷ p open, by the kind of both
  next : Found → (b : A) (p : List A) (a : A) (k : Kind) → kind (b ∷ p ++ (a ∷ [])) ≡ k → (u : Piece A) (P : List (Piece A))
      → from (cutter kind) (b ∷ p) (a ∷ t) ≡ u ∷ P ++ Q → Seam kind [] (b ∷ p) (a ∷ t) (u ∷ P) Q
  next found b p a full q u P e = with_unit (b ∷ p) a (u ∷ P) (rw q (closed found (good (b ∷ p ++ (a ∷ []))) u P (rw q at e)))
  next found b p a part q u P e = with_unit (b ∷ p) a (u ∷ P) (rw q (found (b ∷ p ++ (a ∷ [])) u P (rw q at e)))
  next found b p a bad q u [] e =
      let e' : ill (b ∷ p) ∷ pieces kind (a ∷ t) ≡ u ∷ Q = rw q at e in
      record { front = []; back = a ∷ t; joined = refl; before = cc; after = cc }
  next found b p a bad q u (v ∷ P) e =
      let e' : ill (b ∷ p) ∷ pieces kind (a ∷ t) ≡ u ∷ (v ∷ P ++ Q) = rw q at e in
      let same : ill (b ∷ p) ≡ u = cc in
      let s : Seam kind (cut_emit kind [] a) (cut_step kind [] a) t (v ∷ P) Q = first found (kind (a ∷ [])) a v P (cc) in
      with_unit (b ∷ p) a (u ∷ v ∷ P) (rw (q, ← same) (with-piece (ill (b ∷ p)) (cut_emit kind [] a) (cut_step kind [] a) (v ∷ P) s))

module _ {A : Type 0} (kind : List A → Kind) where
  find : (t : List A) (Q : List (Piece A)) → Found kind t Q
  find [] Q [] u P e = absurd (nil≢cons e)
  find [] Q (b ∷ p) u P e =
      let none : P ++ Q ≡ [] = cc in
      record { front = []; back = []; joined = refl; before = cc (nil-left P Q none); after = sym (nil-right P Q none) }
  find (a ∷ t) Q [] u P e = with_unit kind t Q [] a (u ∷ P) (first kind t Q (find t Q) (kind (a ∷ [])) a u P e)
  find (a ∷ t) Q (b ∷ p) u P e = next kind t Q (find t Q) b p a (kind (b ∷ p ++ (a ∷ []))) refl u P e

  -- ---- THE SEAM LAW

  pub seam : (t : List A) (P Q : List (Piece A)) → pieces kind t ≡ P ++ Q → Halves kind t P Q
  seam t [] Q e =
      let h : units_of Q ≡ t = rw e at (units_of-pieces kind t) in
      record { text = sym h; before = refl; after = rw h e }
  seam t (u ∷ P) Q e =
      let s : Seam kind [] [] t (u ∷ P) Q = find t Q [] u P e in
      let h₁ : units_of (u ∷ P) ≡ s.front = rw s.before at (units_of-pieces kind s.front) in
      let h₂ : units_of Q ≡ s.back = rw s.after at (units_of-pieces kind s.back) in
      record { text = rw (h₁, h₂) s.joined; before = rw h₁ s.before; after = rw h₂ s.after }

  -- ---- THE KEEPING LAW

  -- a well-formed piece was written on the way, as one of O: what is written out at the end is
  -- ill-formed
  on-the-way : (P O : List (Piece A)) (u : List A) (Q : List (Piece A)) (s : List A) → P ++ good u ∷ Q ≡ O ++ cut_flush s
      → (R : List (Piece A)) × (O ≡ P ++ good u ∷ R)
  on-the-way [] [] u Q [] e = absurd (cons≢nil e)
  on-the-way [] [] u Q (b ∷ s) e = let z : ◌≡◌ {A = ℕ} 0 1 = cc in absurd (omega arith)
  on-the-way [] (o ∷ O) u Q s e = (O, cc)
  on-the-way (v ∷ P) [] u Q [] e = absurd (cons≢nil e)
  on-the-way (v ∷ P) [] u Q (b ∷ s) e = absurd (cons≢nil (nil-right P (good u ∷ Q) (cc)))
  on-the-way (v ∷ P) (o ∷ O) u Q s e =
      let r : (R : List (Piece A)) × (O ≡ P ++ good u ∷ R) = on-the-way P O u Q s (cc) in
      (r.0, cc r.1)

  carried : (x y : List A) (P : List (Piece A)) (u : List A) (R : List (Piece A)) → outs (cutter kind) [] x ≡ P ++ good u ∷ R
      → pieces kind (x ++ y) ≡ P ++ good u ∷ (R ++ from (cutter kind) (ends (cutter kind) [] x) y)
  carried x y P u R e = rw (from-append (cutter kind) x y [], e, append_assoc)

  pub kept : (x y : List A) (P : List (Piece A)) (u : List A) (Q : List (Piece A)) → pieces kind x ≡ P ++ good u ∷ Q
      → (R : List (Piece A)) × (pieces kind (x ++ y) ≡ P ++ good u ∷ R)
  kept x y P u Q e =
      let n = ends (cutter kind) [] x in
      let r = on-the-way P (outs (cutter kind) [] x) u Q n (sym e ∙ from-outs (cutter kind) x []) in
      (r.0 ++ from (cutter kind) n y, carried x y P u r.0 r.1)
