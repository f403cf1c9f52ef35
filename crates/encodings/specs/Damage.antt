-- How far damage in the middle of a text reaches: what of a mended text depends on its beginning
-- alone, and what on its ending alone. Stated once, over any encoding and any transformation of
-- code points. A text is mended by reading it, each ill-formed part as one U+FFFD, and transforming
-- what was read. Definitions and statements; nothing is proved here (proofs/Damage), and there is
-- no one encoding and no one transformation here.
--
-- In order: `Encoding`, `Transformation`; mending (`code_of`, `codes`, `mend`); ends and starts of
-- texts (`EndsWith`, `StartsWith`); the places (`seek`, `skip`, `stands`, `upto`, `soft_units`) and
-- the texts that they bound (`ending`, `beginning`); the statement (`Kept`); what it asks of an
-- encoding (`Leads`) and of a transformation (`Cuttable`).
use Rattle.std.specs.Prelude.{◌≡◌, Bool, true, false, cond, not, ◌||◌, List, [], ◌∷◌, ◌++◌, ℕ}
use Rattle.laws.specs.Machines.{Splits}
use Rattle.encodings.specs.Pieces.{Kind, Piece, good, ill, units_of, pieces, Starts}

-- an encoding: the kind of each sequence of units, the code point of a well-formed one, and which
-- units only ever begin a sequence
pub record Encoding (A : Type 0) : Type 0 where
  pub kind : List A → Kind
  pub code : List A → ℕ
  pub lead : A → Bool

-- a transformation of code points into letters of B, and its soft code points: those that may take
-- part in what is made of what stands before them
pub record Transformation (B : Type 0) : Type 0 where
  pub make : List ℕ → List B
  pub soft : ℕ → Bool

-- ---- mending

abbrev pub code_of : {A : Type 0} → Encoding A → Piece A → ℕ
code_of e (good u) = e.code u
code_of e (ill u) = 0xFFFD

abbrev pub codes : {A : Type 0} → Encoding A → List (Piece A) → List ℕ
codes e [] = []
codes e (w ∷ P) = code_of e w ∷ codes e P

abbrev pub mend : {A B : Type 0} → Encoding A → Transformation B → List A → List B
mend e m t = m.make (codes e (pieces e.kind t))

-- ---- places in a text

abbrev pub EndsWith : {A : Type 0} → List A → List A → Type 0
EndsWith {A} x z = (h : List A) × (x ≡ h ++ z)

abbrev pub StartsWith : {A : Type 0} → List A → List A → Type 0
StartsWith {A} x z = (h : List A) × (x ≡ z ++ h)

-- the text from its first unit that begins a sequence; nothing, if there is none
abbrev pub seek : {A : Type 0} → (A → Bool) → List A → List A
seek lead [] = []
seek lead (a ∷ x) = cond (lead a) (a ∷ x) (seek lead x)

-- the pieces from the first that is ill-formed or not soft; nothing, if there is none
abbrev pub skip : {A : Type 0} → (List A → Bool) → List (Piece A) → List (Piece A)
skip soft [] = []
skip soft (ill u ∷ P) = ill u ∷ P
skip soft (good u ∷ P) = cond (soft u) (skip soft P) (good u ∷ P)

-- is there a well-formed piece among them that is not soft?
abbrev pub stands : {A : Type 0} → (List A → Bool) → List (Piece A) → Bool
stands soft [] = false
stands soft (ill u ∷ P) = stands soft P
stands soft (good u ∷ P) = not (soft u) || stands soft P

-- the pieces before the last such one; nothing, if there is none
abbrev pub upto : {A : Type 0} → (List A → Bool) → List (Piece A) → List (Piece A)
upto soft [] = []
upto soft (w ∷ P) = cond (stands soft P) (w ∷ upto soft P) []

abbrev pub soft_units : {A B : Type 0} → Encoding A → Transformation B → List A → Bool
soft_units e m u = m.soft (e.code u)

-- z from the first character that is ill-formed or not soft, where z is read from its first unit
-- that begins a sequence
abbrev pub ending : {A B : Type 0} → Encoding A → Transformation B → List A → List A
ending e m z = units_of (skip (soft_units e m) (pieces e.kind (seek e.lead z)))

-- b up to its last whole well-formed character that is not soft, that character left out
abbrev pub beginning : {A B : Type 0} → Encoding A → Transformation B → List A → List A
beginning e m b = units_of (upto (soft_units e m) (pieces e.kind b))

-- ---- the statement, and what it asks for

-- a text that begins with b and ends with z, whatever c stands between them: mended, it ends with
-- what mending z from its place gives, and starts with what mending b up to its place gives. If
-- there is no such place, that is nothing
pub record Kept {A B : Type 0} (e : Encoding A) (m : Transformation B) (b c z : List A) : Type 0 where
  pub ends : EndsWith (mend e m (b ++ c ++ z)) (mend e m (ending e m z))
  pub starts : StartsWith (mend e m (b ++ c ++ z)) (mend e m (beginning e m b))

-- of an encoding: what it calls a lead unit begins a sequence wherever it stands
pub record Leads {A : Type 0} (e : Encoding A) : Type 0 where
  pub starts : (a : A) → e.lead a ≡ true → Starts e.kind a

-- of a transformation: of nothing it makes nothing, it may be cut before each code point that is
-- not soft, and U+FFFD stands alone: it is a wall
pub record Cuttable {B : Type 0} (m : Transformation B) : Type 0 where
  pub empty : m.make [] ≡ []
  pub cuts : (c : ℕ) → m.soft c ≡ false → (y : List ℕ) → Splits m.make (c ∷ y)
  pub alone : (x y : List ℕ) → m.make (x ++ 0xFFFD ∷ y) ≡ m.make x ++ (m.make (0xFFFD ∷ []) ++ m.make y)
