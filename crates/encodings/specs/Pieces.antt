-- A text of code units taken apart into pieces: well-formed sequences, and ill-formed parts between
-- them. One machine for every encoding. The encoding is given by `kind`, which says of a sequence
-- of units whether it is well-formed, a proper beginning of a well-formed one, or neither. That the
-- pieces are those of the Unicode Standard is no part of this: specs/Readings states it and
-- proofs/Readings shows it. No code points here.
--
-- In order: `Kind`, `Piece`; the units of pieces (`units`, `units_of`); one unit more (`made`,
-- `left`, and with something open `made_at`, `left_at`); the machine (`cut_emit`, `cut_step`,
-- `cut_flush`, `cutter`); the pieces of a text (`pieces`); their ill-formed ones counted
-- (`ill_count`); units that begin a piece wherever they stand (`Starts`).
use Rattle.std.specs.Prelude.{◌≡◌, List, [], ◌∷◌, ◌++◌, ℕ, suc}
use Rattle.laws.specs.Machines.{Machine, whole}

-- a sequence is well-formed, a proper beginning of a well-formed one, or neither
pub data Kind : Type 0 where
  full part bad : Kind

-- a well-formed sequence, or an ill-formed part
pub data Piece (A : Type 0) : Type 0 where
  good : List A → Piece A
  ill : List A → Piece A

abbrev pub units : {A : Type 0} → Piece A → List A
units (good u) = u
units (ill u) = u

abbrev pub units_of : {A : Type 0} → List (Piece A) → List A
units_of [] = []
units_of (w ∷ P) = units w ++ units_of P

-- ---- one unit more

-- the pieces that a sequence u of the kind k makes, and what of it stays open
abbrev pub made : {A : Type 0} → Kind → List A → List (Piece A)
made full u = good u ∷ []
made part u = []
made bad u = ill u ∷ []

abbrev pub left : {A : Type 0} → Kind → List A → List A
left full u = []
left part u = u
left bad u = []

-- the same if p is open and a comes: k is the kind of p with a, and k₁ that of a alone. If a does
-- not go on, p is ill-formed and a begins anew
abbrev pub made_at : {A : Type 0} → Kind → Kind → List A → A → List (Piece A)
made_at full k₁ p a = good (p ++ (a ∷ [])) ∷ []
made_at part k₁ p a = []
made_at bad k₁ p a = ill p ∷ made k₁ (a ∷ [])

abbrev pub left_at : {A : Type 0} → Kind → Kind → List A → A → List A
left_at full k₁ p a = []
left_at part k₁ p a = p ++ (a ∷ [])
left_at bad k₁ p a = left k₁ (a ∷ [])

-- ---- the machine: its state is what is open, and what is open at the end is ill-formed

abbrev pub cut_emit : {A : Type 0} → (List A → Kind) → List A → A → List (Piece A)
cut_emit kind [] a = made (kind (a ∷ [])) (a ∷ [])
cut_emit kind (b ∷ p) a = made_at (kind (b ∷ p ++ (a ∷ []))) (kind (a ∷ [])) (b ∷ p) a

abbrev pub cut_step : {A : Type 0} → (List A → Kind) → List A → A → List A
cut_step kind [] a = left (kind (a ∷ [])) (a ∷ [])
cut_step kind (b ∷ p) a = left_at (kind (b ∷ p ++ (a ∷ []))) (kind (a ∷ [])) (b ∷ p) a

abbrev pub cut_flush : {A : Type 0} → List A → List (Piece A)
cut_flush [] = []
cut_flush (b ∷ p) = ill (b ∷ p) ∷ []

abbrev pub cutter : {A : Type 0} → (List A → Kind) → Machine (List A) A (Piece A)
cutter kind = record { start = []; step = cut_step kind; emit = cut_emit kind; flush = cut_flush }

abbrev pub pieces : {A : Type 0} → (List A → Kind) → List A → List (Piece A)
pieces kind t = whole (cutter kind) t

-- ---- ill-formed pieces, and units that begin a piece

-- how many pieces are ill-formed
abbrev pub ill_count : {A : Type 0} → List (Piece A) → ℕ
ill_count [] = 0
ill_count (good u ∷ P) = ill_count P
ill_count (ill u ∷ P) = suc (ill_count P)

-- a begins a piece wherever it stands: no open sequence goes on with it
abbrev pub Starts : {A : Type 0} → (List A → Kind) → A → Type 0
Starts {A} kind a = (b : A) (p : List A) → kind (b ∷ p ++ (a ∷ [])) ≡ bad
