-- Document 02, #101, over the calls: "Read and write UTF-16 as the Unicode Standard defines it,
-- with each unpaired surrogate read as one FFFD and counted. Mending exists for units as it does
-- for bytes". What demand 1 says of these calls stands in specs/Calls, and demand 3 for units in
-- specs/Demand3Units. Here stand what demand 2 and the accident say, for units; what an unpaired
-- surrogate is; how long the answers are; and that a label from the clipboard and the same label
-- from a file of bytes are one boat. Statements over calls that are done; nothing is proved here.
use Rattle.std.specs.Prelude.{◌≡◌, false, ◌↔◌, List, [], ◌∷◌, ◌++◌, ℕ, ◌*◌, ◌≤◌, ◌<◌, length, take, Ok}
use Rattle.laws.specs.Lists.{All}
use Rattle.answers.specs.Checks.{bad}
use Rattle.answers.specs.Answers.{Makes}
use Rattle.letters.specs.Syllables.{full_parts}
use Rattle.normal.specs.Forms.{nfc}
use Rattle.normal.specs.Jamo.{jamo}
use Rattle.encodings.specs.Pieces.{Piece, ill, ill_count}
use Rattle.encodings.specs.Readings.{Reading}
use Rattle.encodings.specs.Damage.{codes}
use Rattle.encodings.specs.Rows.{kind_by}
use Rattle.encodings.specs.Reading.{ReadsIn}
use Rattle.encodings.specs.declared.answer.Counted.{Counted}
use Rattle.utf8.specs.Utf8.{read_text, write_text}
use Rattle.utf16.specs.Utf16.{table_d91, utf16, form16, read_units, unpaired, write_units, unpaired_from}
use Rattle.mending.specs.Mending.{mended, filled_front}
use Rattle.mending_units.specs.Mending.{mended_units}
use Rattle.demands.specs.Accident.{Mended}

-- a call of mending on these units was done, and this is what it wrote
pub record MendedUnits (units written : List ℕ) : Type 0 where
  pub lent : List ℕ
  pub after : List ℕ
  pub answer : Counted
  pub call : ReadsIn form16 mended_units units lent (Ok answer) after
  pub is : written ≡ filled_front answer after

-- ---- demand 2 for units

-- "Read .. UTF-16 as the Unicode Standard defines it": section 3.9. The text has a reading by D91
-- and D93b; and of whatever reading it has, the code points are what was written, with FFFD for
-- each unpaired surrogate, and the number of these is what was counted
pub record UnitsReadAsDefined (text written : List ℕ) (ills : ℕ) : Type 0 where
  pub pieces : List (Piece ℕ)
  pub read : Reading (kind_by table_d91) text pieces
  pub codes-are : (P : List (Piece ℕ)) → Reading (kind_by table_d91) text P → written ≡ codes utf16 P
  pub ills-are : (P : List (Piece ℕ)) → Reading (kind_by table_d91) text P → ills ≡ ill_count P

abbrev pub ReadingUtf16 : Type 0
ReadingUtf16 =
    (text out out' : List ℕ) (c : Counted) → ReadsIn form16 read_units text out (Ok c) out' → UnitsReadAsDefined text (take c.length out') c.ills

-- "and write": what was written reads back, with nothing counted; and what was read of units with
-- nothing counted is written back
abbrev pub WrittenReadsBack : Type 0
WrittenReadsBack =
    (text out out' back back' : List ℕ) (n : ℕ) (c : Counted) → Makes write_units text out (Ok n) out'
    → ReadsIn form16 read_units (take n out') back (Ok c) back' → (take c.length back' ≡ text) × (c.ills ≡ 0)

abbrev pub ReadWritesBack : Type 0
ReadWritesBack =
    (units out out' back back' : List ℕ) (c : Counted) (n : ℕ) → ReadsIn form16 read_units units out (Ok c) out'
    → Makes write_units (take c.length out') back (Ok n) back' → c.ills ≡ 0 → take n back' ≡ units

-- mending is reading, joining and writing: of whatever reading the text has, what was written is
-- the UTF-16 of what its code points compose to, and the count is that of its unpaired surrogates
abbrev pub MendingUtf16 : Type 0
MendingUtf16 =
    (text out out' : List ℕ) (c : Counted) → ReadsIn form16 mended_units text out (Ok c) out' → (P : List (Piece ℕ))
    → Reading (kind_by table_d91) text P → (take c.length out' ≡ write_units (nfc jamo (codes utf16 P))) × (c.ills ≡ ill_count P)

-- mending again changes nothing, and counts nothing
abbrev pub MendedAgainUnits : Type 0
MendedAgainUnits =
    (units v out out' : List ℕ) (c : Counted) → MendedUnits units v → ReadsIn form16 mended_units v out (Ok c) out'
    → (take c.length out' ≡ v) × (c.ills ≡ 0)

-- ---- unpaired surrogates

-- "each unpaired surrogate": an ill-formed subpart is one unit, and that is a surrogate
abbrev pub SubpartIsUnpaired : Type 0
SubpartIsUnpaired =
    (units : List ℕ) (before : List (Piece ℕ)) (subpart : List ℕ) (after : List (Piece ℕ)) → All (λ a. a < 0x10000) units
    → Reading (kind_by table_d91) units (before ++ ill subpart ∷ after) → (a : ℕ) × (subpart ≡ a ∷ []) × (0xD800 ≤ a) × (a ≤ 0xDFFF)

-- "and counted": what is counted are the high surrogates with no low one after them and the low
-- ones with no high one before them
abbrev pub UnpairedCounted : Type 0
UnpairedCounted = (units : List ℕ) → All (λ a. a < 0x10000) units → unpaired units ≡ unpaired_from false units

-- "A true FFFD in the text isn't counted", and FEFF is a character
abbrev pub TrueMarks : Type 0
TrueMarks = (read_units (0xFEFF ∷ 0xFFFD ∷ []) ≡ 0xFEFF ∷ 0xFFFD ∷ []) × (unpaired (0xFEFF ∷ 0xFFFD ∷ []) ≡ 0)

-- ---- lengths

-- n units read as at most n code points, n code points are written as n to 2n units, and n units
-- are mended to at most n and at least a third of n
abbrev pub UnitLengths : Type 0
UnitLengths =
    (text : List ℕ) → (length (read_units text) ≤ length text)
    × (length text ≤ length (write_units text)) × (length (write_units text) ≤ 2 * length text)
    × (length (mended_units text) ≤ length text) × (length text ≤ 3 * length (mended_units text))

-- and the bound is attained: plain text, all below 1100, comes back as it is
abbrev pub PlainStays : Type 0
PlainStays = (units : List ℕ) → All (λ a. a < 0x1100) units → mended_units units ≡ units

-- ---- the accident

-- ONE BOAT: a name as it stands, and the same name taken apart into single letters, are mended to
-- the same units
abbrev pub OneBoatUnits : Type 0
OneBoatUnits =
    (name v w : List ℕ) → All (λ c. bad c ≡ false) name
    → MendedUnits (write_units name) v → MendedUnits (write_units (full_parts name)) w → v ≡ w

-- two names are mended to the same units exactly when what they read as has equal full parts
abbrev pub SameUnits : Type 0
SameUnits = (s t v w : List ℕ) → MendedUnits s v → MendedUnits t w → (v ≡ w) ↔ (full_parts (read_units s) ≡ full_parts (read_units t))

-- ---- between the forms

-- mended as units and then written as bytes, or written as bytes and then mended: the same; and the
-- other way round
abbrev pub UnitsThenBytes : Type 0
UnitsThenBytes = (units : List ℕ) → write_text (read_units (mended_units units)) ≡ mended (write_text (read_units units))

abbrev pub BytesThenUnits : Type 0
BytesThenUnits = (bytes : List ℕ) → write_units (read_text (mended bytes)) ≡ mended_units (write_units (read_text bytes))

-- units with nothing unpaired come back through UTF-8
abbrev pub ThroughBytes : Type 0
ThroughBytes = (units : List ℕ) → unpaired units ≡ 0 → write_units (read_text (write_text (read_units units))) ≡ units

-- ONE BOAT: a label from the clipboard and a label from a file of bytes, each mended by its own
-- call, are the same text exactly when what they read as has equal full parts
abbrev pub OneBoatAcross : Type 0
OneBoatAcross =
    (units bytes v w : List ℕ) → MendedUnits units v → Mended bytes w
    → (read_units v ≡ read_text w) ↔ (full_parts (read_units units) ≡ full_parts (read_text bytes))
