-- Reading in any encoding form, as the code answers it: what begins at an index, and the contract
-- of a call that makes something of a text of units and counts its ill-formed subparts (document
-- 01, 'Bytes', 'Refusal numbers'). What the units read as stands in specs/Forms.
use Rattle.std.specs.Prelude.{◌≡◌, List, [], ◌∷◌, ℕ, length, Result}
use Rattle.laws.specs.Writing.{Fronts}
use Rattle.answers.specs.Checks.{takes_units}
use Rattle.answers.specs.Verdicts.{Fills}
use Rattle.answers.specs.Answers.{answered}
use Rattle.answers.specs.declared.refusal.Refusal.{Refusal}
use Rattle.encodings.specs.Pieces.{Piece, good, ill}
use Rattle.encodings.specs.Forms.{Form, ill_in}
use Rattle.encodings.specs.declared.answer.Taken.{Taken}
use Rattle.encodings.specs.declared.answer.Counted.{Counted}

-- a code point of so many units, and an ill-formed subpart of so many
abbrev pub good_of : ℕ → ℕ → Taken
good_of code size = record { code = code; size = size; ill = 0 }

abbrev pub ill_of : ℕ → Taken
ill_of size = record { code = 0xFFFD; size = size; ill = 1 }

-- the first of a text's pieces
abbrev pub taken_in : Form → List (Piece ℕ) → Taken
taken_in f [] = good_of 0 0
taken_in f (good u ∷ P) = good_of (f.encoding.code u) (length u)
taken_in f (ill u ∷ P) = ill_of (length u)

-- what is made of the units fills the front of the buffer, and what was counted is its length and
-- the number of ill-formed subparts
pub record ReadFrontsIn (f : Form) (make : List ℕ → List ℕ) (text out : List ℕ) (r : Counted) (out' : List ℕ) : Type 0 where
  pub fronts : Fronts (make text) out r.length out'
  pub ills : r.ills ≡ ill_in f text

-- what there is to count
abbrev pub counted_in : Form → (List ℕ → List ℕ) → List ℕ → Counted
counted_in f make text = record { length = length (make text); ills = ill_in f text }

-- THE CONTRACT of a call that makes `make text` of units: 1, then 3; reading is the call at
-- `read_in f`
pub record ReadsIn (f : Form) (make : List ℕ → List ℕ) (text out : List ℕ) (r : Result Counted Refusal) (out' : List ℕ) : Type 0 where
  pub fills : Fills (takes_units text) (make text) (counted_in f make text) out (answered r) out'
