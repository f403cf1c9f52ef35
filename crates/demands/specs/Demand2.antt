-- Demand 2: "Taking syllables apart, joining letters, reading UTF-8 and naming give exactly what
-- the Unicode Standard defines for Hangul. Naming and reading names undo each other on all 11,172
-- syllables. Wherever the parts of a text are within the limit, joining them gives the same as
-- joining the text." A statement for each clause, over calls that are done; nothing is proved here.
use Rattle.std.specs.Prelude.{◌≡◌, false, List, [], ◌∷◌, ℕ, ◌+◌, ◌≤◌, length, take, Result, Ok}
use Rattle.laws.specs.Lists.{All, each}
use Rattle.laws.specs.Writing.{front}
use Rattle.answers.specs.Checks.{bad, bad_code_point}
use Rattle.answers.specs.Verdicts.{verdict}
use Rattle.answers.specs.Answers.{Makes}
use Rattle.answers.specs.declared.refusal.Refusal.{Refusal}
use Rattle.letters.specs.Chapter3.{mapping, decomposition}
use Rattle.letters.specs.Syllables.{one_step, full_parts}
use Rattle.letters.specs.Answers.{codes_in, stepped}
use Rattle.letters.specs.declared.step.Parts.{Parts}
use Rattle.joining.specs.Joining.{join}
use Rattle.normal.specs.Forms.{Database, nfd, nfc, Equivalent}
use Rattle.normal.specs.Jamo.{jamo}
use Rattle.normal.specs.Repertoire.{Repertoire, Ucd}
use Rattle.encodings.specs.Pieces.{Piece, ill_count}
use Rattle.encodings.specs.Readings.{Reading}
use Rattle.encodings.specs.Damage.{codes}
use Rattle.encodings.specs.declared.answer.Counted.{Counted}
use Rattle.utf8.specs.Table37.{kind_of}
use Rattle.utf8.specs.Utf8.{utf8, read_text, write_text}
use Rattle.utf8.specs.Reading.{Reads}
use Rattle.mending.specs.Mending.{mended}
use Rattle.names.specs.NR1.{rule_nr1}
use Rattle.names.specs.Naming.{Names, ReadsName}

-- "Taking syllables apart": section 3.12. One step is the arithmetic decomposition mapping; full
-- parts are the full canonical decomposition of each character of the text
abbrev pub OneStepIs : Type 0
OneStepIs = (code : ℕ) (parts : Parts) → stepped (Ok parts) ≡ verdict (bad_code_point (code ∷ [])) (one_step code) → codes_in parts ≡ mapping code

abbrev pub TakingApart : Type 0
TakingApart = (text out out' : List ℕ) (n : ℕ) → Makes full_parts text out (Ok n) out' → take n out' ≡ each decomposition text

-- full parts as a normal form: NFD (D118). Of every text over the database that has the syllables
-- and the tone marks' class alone; and on document 01's repertoire over every database that says of
-- it what the Unicode Character Database says
abbrev pub PartsNfd : Type 0
PartsNfd = (text out out' : List ℕ) (n : ℕ) → Makes full_parts text out (Ok n) out' → take n out' ≡ nfd jamo text

abbrev pub PartsNfdUcd : Type 0
PartsNfdUcd =
    (ucd : Database) → Ucd ucd → (text out out' : List ℕ) (n : ℕ) → All Repertoire text → Makes full_parts text out (Ok n) out' → take n out' ≡ nfd ucd text

-- "joining letters": the canonical composition of sections 3.11 and 3.12. Of every text, over the
-- database that has the syllables and the tone marks' class alone; and on document 01's repertoire
-- over every database that says of it what the Unicode Character Database says
abbrev pub Joining : Type 0
Joining = (text out out' : List ℕ) (n : ℕ) → Makes join text out (Ok n) out' → take n out' ≡ nfc jamo text

abbrev pub JoiningUcd : Type 0
JoiningUcd =
    (ucd : Database) → Ucd ucd → (text out out' : List ℕ) (n : ℕ) → All Repertoire text → Makes join text out (Ok n) out' → take n out' ≡ nfc ucd text

-- and joining keeps canonical equivalence (D70): the joined text is canonically equivalent to the
-- text, whatever characters it has, over every such database
abbrev pub JoiningKeeps : Type 0
JoiningKeeps =
    (ucd : Database) → Ucd ucd → (text out out' : List ℕ) (n : ℕ) → Makes join text out (Ok n) out' → Equivalent ucd (take n out') text

-- "reading UTF-8": section 3.9. The text has a reading by table 3-7 and D93b; and of whatever
-- reading it has, the code points are what was written, with FFFD for each ill-formed maximal
-- subpart, and the number of these is what was counted
pub record ReadsAsDefined (text written : List ℕ) (ills : ℕ) : Type 0 where
  pub pieces : List (Piece ℕ)
  pub read : Reading kind_of text pieces
  pub codes-are : (P : List (Piece ℕ)) → Reading kind_of text P → written ≡ codes utf8 P
  pub ills-are : (P : List (Piece ℕ)) → Reading kind_of text P → ills ≡ ill_count P

abbrev pub ReadingUtf8 : Type 0
ReadingUtf8 = (text out out' : List ℕ) (c : Counted) → Reads read_text text out (Ok c) out' → ReadsAsDefined text (take c.length out') c.ills

-- mending is reading, joining and writing: of whatever reading the text has, what was written is
-- the UTF-8 of what its code points compose to, and the count is that of its ill-formed maximal
-- subparts
abbrev pub Mending : Type 0
Mending =
    (text out out' : List ℕ) (c : Counted) → Reads mended text out (Ok c) out' → (P : List (Piece ℕ)) → Reading kind_of text P
    → (take c.length out' ≡ write_text (nfc jamo (codes utf8 P))) × (c.ills ≡ ill_count P)

-- "and naming": rule NR1 of section 4.8
abbrev pub Naming : Type 0
Naming = (code : ℕ) (out out' : List ℕ) (n : ℕ) → Names code out (Ok n) out' → take n out' ≡ rule_nr1 code

-- "Naming and reading names undo each other on all 11,172 syllables": what was named reads as the
-- syllable, and what was read as a syllable is its name
abbrev pub ReadNamed : Type 0
ReadNamed = (s n : ℕ) (out out' : List ℕ) (r : Result ℕ Refusal) → Names s out (Ok n) out' → ReadsName (take n out') r → r ≡ Ok s

abbrev pub NameRead : Type 0
NameRead =
    (s : ℕ) (name out out' : List ℕ) (r : Result ℕ Refusal) → ReadsName name (Ok s) → length name ≤ length out → Names s out r out'
    → (r ≡ Ok (length name)) × (out' ≡ front name out)

-- and each of the 11,172 is named, if there is room for 23 bytes
abbrev pub AllNamed : Type 0
AllNamed =
    (index : ℕ) → index ≤ 11171 → (out out' : List ℕ) (r : Result ℕ Refusal) → 23 ≤ length out → Names (0xAC00 + index) out r out'
    → (n : ℕ) × (r ≡ Ok n)

-- "Wherever the parts of a text are within the limit, joining them gives the same as joining the
-- text": the two calls answer and leave the same
abbrev pub JoiningParts : Type 0
JoiningParts =
    (text out o p : List ℕ) (r s : Result ℕ Refusal) → All (λ c. bad c ≡ false) text → length (full_parts text) ≤ 16384
    → Makes join (full_parts text) out r o → Makes join text out s p → (r ≡ s) × (o ≡ p)
