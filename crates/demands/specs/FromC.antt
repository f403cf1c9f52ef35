-- The demands over the calls that the drawing program makes, from C. What such a call does if it
-- refuses nothing is what the call below it does (`MendedFromC`, `MendedUnitsFromC`, `NamedFromC`,
-- `ReadFromC`), so that what specs/Accident, Demand2 and Demand3 say of that call holds of it; and
-- what the header promises beside that: one boat, the count, a name read back, an order to sort by.
-- Statements over any results that the contracts of the calls for C admit; nothing is proved here.
use Rattle.std.specs.Prelude.{◌≡◌, false, List, ℕ, ◌+◌, ◌≤◌, take, Ok}
use Rattle.laws.specs.Lists.{All}
use Rattle.answers.specs.Checks.{bad}
use Rattle.letters.specs.Syllables.{full_parts}
use Rattle.encodings.specs.Pieces.{Piece, ill_count}
use Rattle.encodings.specs.Readings.{Reading}
use Rattle.encodings.specs.Rows.{kind_by}
use Rattle.utf8.specs.Table37.{kind_of}
use Rattle.utf8.specs.Utf8.{write_text}
use Rattle.utf16.specs.Utf16.{table_d91, write_units}
use Rattle.names.specs.Naming.{Names, ReadsName}
use Rattle.pulphopper.specs.Replies.{Mends, MendsUnits, NamesForC, ReadsNameForC, RanksForC}
use Rattle.pulphopper.specs.declared.answer.Answer.{Answer}
use Rattle.demands.specs.Accident.{Mended}
use Rattle.demands.specs.Clipboard.{MendedUnits}

-- ---- mending

-- what `pulphopper_mend` wrote if it refused nothing is what mending wrote: the accident and
-- demand 3 speak of it
abbrev pub MendedFromC : Type 0
MendedFromC = (text out out' : List ℕ) (r : Answer) → Mends text out r out' → r.refusal ≡ 0 → Mended text (take r.value out')

-- "finished syllables and single letters": the two spellings of a name give the same bytes
abbrev pub OneBoatFromC : Type 0
OneBoatFromC =
    (name out out' other other' : List ℕ) (r q : Answer) → All (λ c. bad c ≡ false) name
    → Mends (write_text name) out r out' → Mends (write_text (full_parts name)) other q other' → r.refusal ≡ 0 → q.refusal ≡ 0
    → take r.value out' ≡ take q.value other'

-- the count is that of the ill-formed maximal subparts in the Standard's reading of the bytes
abbrev pub CountedFromC : Type 0
CountedFromC =
    (text out out' : List ℕ) (r : Answer) → Mends text out r out' → r.refusal ≡ 0 → (P : List (Piece ℕ)) → Reading kind_of text P → r.count ≡ ill_count P

-- the same of `pulphopper_mend_units`: specs/Clipboard and Demand3Units speak of what it wrote
abbrev pub MendedUnitsFromC : Type 0
MendedUnitsFromC = (text out out' : List ℕ) (r : Answer) → MendsUnits text out r out' → r.refusal ≡ 0 → MendedUnits text (take r.value out')

abbrev pub OneBoatUnitsFromC : Type 0
OneBoatUnitsFromC =
    (name out out' other other' : List ℕ) (r q : Answer) → All (λ c. bad c ≡ false) name
    → MendsUnits (write_units name) out r out' → MendsUnits (write_units (full_parts name)) other q other' → r.refusal ≡ 0 → q.refusal ≡ 0
    → take r.value out' ≡ take q.value other'

-- the count is that of the unpaired surrogates in the Standard's reading of the units
abbrev pub CountedUnitsFromC : Type 0
CountedUnitsFromC =
    (text out out' : List ℕ) (r : Answer) → MendsUnits text out r out' → r.refusal ≡ 0 → (P : List (Piece ℕ)) → Reading (kind_by table_d91) text P
    → r.count ≡ ill_count P

-- ---- names

abbrev pub NamedFromC : Type 0
NamedFromC = (code : ℕ) (out out' : List ℕ) (r : Answer) → NamesForC code out r out' → r.refusal ≡ 0 → Names code out (Ok r.value) out'

abbrev pub ReadFromC : Type 0
ReadFromC = (name : List ℕ) (r : Answer) → ReadsNameForC name r → r.refusal ≡ 0 → ReadsName name (Ok r.value)

-- "naming and reading names undo each other": the name that was written is read as the syllable
abbrev pub ReadBackFromC : Type 0
ReadBackFromC =
    (code : ℕ) (out out' : List ℕ) (r q : Answer) → NamesForC code out r out' → r.refusal ≡ 0 → ReadsNameForC (take r.value out') q
    → (q.refusal ≡ 0) × (q.value ≡ code)

-- ---- ranking, where 0 is before, 1 equal and 2 after

-- swapping the labels swaps before and after
abbrev pub SwappedFromC : Type 0
SwappedFromC =
    (first second : List ℕ) (r q : Answer) → RanksForC first second r → RanksForC second first q → r.refusal ≡ 0 → q.refusal ≡ 0
    → r.value + q.value ≡ 2

-- a label that is not after a second, which is not after a third, is not after the third
abbrev pub TransitiveFromC : Type 0
TransitiveFromC =
    (first second third : List ℕ) (r q s : Answer) → RanksForC first second r → RanksForC second third q → RanksForC first third s
    → r.refusal ≡ 0 → q.refusal ≡ 0 → s.refusal ≡ 0 → r.value ≤ 1 → q.value ≤ 1 → s.value ≤ 1

-- labels that are mended to the same bytes, as the two spellings of a name are, rank equal
abbrev pub OneRankFromC : Type 0
OneRankFromC =
    (first second same : List ℕ) (r : Answer) → Mended first same → Mended second same → RanksForC first second r → r.refusal ≡ 0 → r.value ≡ 1
