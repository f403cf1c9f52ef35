-- The reading of a text of code units by the Unicode Standard 15.0, chapter 3, section 3.9, over
-- any encoding: well-formed sequences, and where none starts the maximal subpart of an ill-formed
-- subsequence. `Maximal` is definition D93b: the longest subsequence at an unconvertible offset
-- (D93a) that is the initial subsequence of a well-formed sequence or one unit long. Of an encoding
-- it asks only which sequences are well-formed: it never looks at what `kind` calls a part.
--
-- This is a relation between a text and its pieces and no procedure: proofs/Readings shows that the
-- machine of specs/Pieces gives such a reading, and that there is no second one. That what a `kind`
-- calls full is what the Standard's tables list, each encoding has to show.
--
-- In order: the beginning of a well-formed sequence (`Completable`); what of a `kind` is asked
-- (`Coherent`); `Subpart`, `Maximal`; `Reading`.
use Rattle.std.specs.Prelude.{◌≡◌, ◌⊎◌, List, [], ◌∷◌, ◌++◌, ◌≤◌, length}
use Rattle.encodings.specs.Pieces.{Kind, full, part, bad, Piece, good, ill}

-- u is the initial subsequence of a well-formed sequence: some `rest` completes it
pub record Completable {A : Type 0} (kind : List A → Kind) (u : List A) : Type 0 where
  pub rest : List A
  pub completed : kind (u ++ rest) ≡ full

-- what is longer than a well-formed sequence is not well-formed, nor what `kind` calls the
-- beginning of one; what is neither stays so; and some rest completes what `kind` calls a beginning
pub record Coherent {A : Type 0} (kind : List A → Kind) : Type 0 where
  pub empty : kind [] ≡ bad
  pub after-full : (b : A) (p : List A) (a : A) → kind (b ∷ p) ≡ full → kind (b ∷ p ++ (a ∷ [])) ≡ bad
  pub after-bad : (b : A) (p : List A) (a : A) → kind (b ∷ p) ≡ bad → kind (b ∷ p ++ (a ∷ [])) ≡ bad
  pub completes : (b : A) (p : List A) → kind (b ∷ p) ≡ part → Completable kind (b ∷ p)

-- D93b, its two cases: the initial subsequence of a well-formed sequence, or of length one
abbrev pub Subpart : {A : Type 0} → (List A → Kind) → List A → Type 0
Subpart kind u = Completable kind u ⊎ (length u ≡ 1)

-- D93b: u is the maximal subpart of an ill-formed subsequence at the front of u ++ t
pub record Maximal {A : Type 0} (kind : List A → Kind) (u t : List A) : Type 0 where
  -- an offset of the text, so there is a unit
  pub some : 1 ≤ length u
  -- and an unconvertible one (D93a): no front of the text is well-formed
  pub unconvertible : (x y : List A) → u ++ t ≡ x ++ y → kind x ≡ full → ⊥
  -- u is either of the two
  pub subpart : Subpart kind u
  -- and the longest front of the text that is
  pub longest : (x y : List A) → u ++ t ≡ x ++ y → Subpart kind x → length x ≤ length u

-- the text on the left reads as the pieces on the right
pub data Reading {A : Type 0} (kind : List A → Kind) : List A → List (Piece A) → Type 0 where
  nothing : Reading kind [] []
  formed : (u : List A) {t : List A} {P : List (Piece A)} → kind u ≡ full → Reading kind t P → Reading kind (u ++ t) (good u ∷ P)
  broken : (u : List A) {t : List A} {P : List (Piece A)} → Maximal kind u t → Reading kind t P → Reading kind (u ++ t) (ill u ∷ P)
