-- Well-formed UTF-8 byte sequences: The Unicode Standard 15.0, chapter 3, section 3.9, table 3-7,
-- row by row. What a table says of a sequence stands in crate encodings, specs/Rows.
use Rattle.std.proofs.Math.Option.{Option, some}
use Rattle.std.specs.Prelude.{List, [], ◌∷◌, ℕ}
use Rattle.laws.specs.Ranges.{range}
use Rattle.encodings.specs.Pieces.{Kind}
use Rattle.encodings.specs.Rows.{Units, ◌to◌, Table, row_in, kind_by}

-- a continuation byte
abbrev pub continuation : Units
continuation = 0x80 to 0xBF

-- TABLE 3-7: the first byte, and the second, third and fourth as far as the row has them
abbrev pub table37 : Table
table37 =
    range 0x00 0x7F (some [])
    ∷ range 0xC2 0xDF (some (continuation ∷ []))
    ∷ range 0xE0 0xE0 (some ((0xA0 to 0xBF) ∷ continuation ∷ []))
    ∷ range 0xE1 0xEC (some (continuation ∷ continuation ∷ []))
    ∷ range 0xED 0xED (some ((0x80 to 0x9F) ∷ continuation ∷ []))
    ∷ range 0xEE 0xEF (some (continuation ∷ continuation ∷ []))
    ∷ range 0xF0 0xF0 (some ((0x90 to 0xBF) ∷ continuation ∷ continuation ∷ []))
    ∷ range 0xF1 0xF3 (some (continuation ∷ continuation ∷ continuation ∷ []))
    ∷ range 0xF4 0xF4 (some ((0x80 to 0x8F) ∷ continuation ∷ continuation ∷ []))
    ∷ []

-- the row that a first byte picks
abbrev pub row_of : ℕ → Option (List Units)
row_of = row_in table37

-- a sequence of bytes is well-formed, a proper beginning of a well-formed one, or neither
abbrev pub kind_of : List ℕ → Kind
kind_of = kind_by table37
