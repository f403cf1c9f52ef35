-- Reading UTF-8, as the code answers it, in short names at UTF-8: what begins at an index, and the
-- contract of a call that makes something of a text of bytes and counts its ill-formed subparts.
-- The definitions, over any encoding form, stand in crate encodings, specs/Reading.
use Rattle.std.specs.Prelude.{List, ℕ, Result}
use Rattle.answers.specs.declared.refusal.Refusal.{Refusal}
use Rattle.encodings.specs.Pieces.{Piece}
use Rattle.encodings.specs.Reading.{taken_in, counted_in, ReadFrontsIn, ReadsIn}
use Rattle.encodings.specs.declared.answer.Taken.{Taken}
use Rattle.encodings.specs.declared.answer.Counted.{Counted}
use Rattle.utf8.specs.Utf8.{form8}

-- the first of a text's pieces
abbrev pub taken_from : List (Piece ℕ) → Taken
taken_from = taken_in form8

-- what there is to count
abbrev pub counted_of : (List ℕ → List ℕ) → List ℕ → Counted
counted_of = counted_in form8

-- what is made of the bytes fills the front of the buffer, and was counted
abbrev pub ReadFronts : (List ℕ → List ℕ) → List ℕ → List ℕ → Counted → List ℕ → Type 0
ReadFronts = ReadFrontsIn form8

-- THE CONTRACT of a call that makes `make text` of bytes: 1, then 3; reading is the call at
-- `read_text`
abbrev pub Reads : (List ℕ → List ℕ) → List ℕ → List ℕ → Result Counted Refusal → List ℕ → Type 0
Reads = ReadsIn form8
