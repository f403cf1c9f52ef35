-- An encoding by rows: a table that says, for ranges of the first unit of a sequence, in which
-- range each further unit lies; and what the table says of a sequence. The Unicode Standard 15.0
-- gives UTF-8 so (chapter 3, section 3.9, table 3-7). No one table here.
use Rattle.std.specs.Prelude.{cond, List, [], ◌∷◌, ℕ}
use Rattle.std.proofs.Math.Option.{Option, none, some}
use Rattle.laws.specs.Ranges.{within, Range, look}
use Rattle.encodings.specs.Pieces.{Kind, full, part, bad}

-- a range that a unit may lie in
infixl 50 ◌to◌
pub data Units : Type 0 where
  ◌to◌ : ℕ → ℕ → Units

-- for ranges of the first unit, the ranges of the units that follow it: a row
abbrev pub Table : Type 0
Table = List (Range (Option (List Units)))

-- the units x where a row goes on with `row`: all of it, a proper beginning, or neither
abbrev pub follows : List Units → List ℕ → Kind
follows [] [] = full
follows [] (b ∷ x) = bad
follows (r ∷ row) [] = part
follows ((lo to hi) ∷ row) (b ∷ x) = cond (within lo hi b) (follows row x) bad

-- the same with the row that the first unit picks, if there is one
abbrev pub in_row : Option (List Units) → List ℕ → Kind
in_row none x = bad
in_row (some row) x = follows row x

unfoldable pub row_in : Table → ℕ → Option (List Units)
row_in table a = look none a table

-- a sequence of units is well-formed, a proper beginning of a well-formed one, or neither
abbrev pub kind_by : Table → List ℕ → Kind
kind_by table [] = bad
kind_by table (a ∷ x) = in_row (row_in table a) x
