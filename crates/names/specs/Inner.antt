-- What the functions inside this crate ask and promise. The calls' contracts stand in specs/Naming.
use Rattle.std.specs.Prelude.{◌≡◌, Bool, false, ◌&&◌, ◌||◌, List, [], ◌∷◌, ◌++◌, map, ℕ, ◌+◌, ◌%◌, ◌<◌, eqb, length, get_or, take, drop, Option, Some, None, Result}
use Rattle.std.specs.Bool.{beq}
use Rattle.laws.specs.Strings.{ascii, begins}
use Rattle.answers.specs.Checks.{passes}
use Rattle.answers.specs.Verdicts.{Fills}
use Rattle.answers.specs.Answers.{answered}
use Rattle.answers.specs.declared.refusal.Refusal.{Refusal}
use Rattle.letters.specs.Syllables.{initial_of, peak_of, final_of}
use Rattle.names.specs.Names.{initials, peaks, finals, name_by}
use Rattle.names.specs.declared.strings.Indices.{Indices}

-- ---- the tables of strings

-- a string as a row of four bytes: its length as a digit, then the string, filled up with spaces
abbrev pub four_bytes : List ℕ → List ℕ
four_bytes string = (0x30 + length string) ∷ take 3 (string ++ ascii "   ")

abbrev pub table_of : List (List ℕ) → List (List ℕ)
table_of strings = map four_bytes strings

-- a table has just these rows: byte by byte those of the strings, in order
abbrev pub StringRows : List (List ℕ) → List (List ℕ) → Type 0
StringRows rows strings = rows ≡ table_of strings

abbrev pub InitialRows : List (List ℕ) → Type 0
InitialRows rows = StringRows rows initials

abbrev pub PeakRows : List (List ℕ) → Type 0
PeakRows rows = StringRows rows peaks

abbrev pub FinalRows : List (List ℕ) → Type 0
FinalRows rows = StringRows rows finals

-- the string of a row of four bytes: a digit, then as many letters
abbrev pub string_of : List ℕ → List ℕ
string_of row = take (get_or row 0 0 % 4) (drop 1 row)

-- ---- naming

-- the three indices of a syllable, and their bounds
abbrev pub indices_of : ℕ → Indices
indices_of s = record { initial = initial_of s; peak = peak_of s; last = final_of s }

abbrev pub Inside : Indices → Type 0
Inside indices = (indices.initial < 19) × (indices.peak < 21) × (indices.last < 28)

-- the name of I, P and F: 3
pub record NamesBy (i p f : ℕ) (out : List ℕ) (r : Result ℕ Refusal) (out' : List ℕ) : Type 0 where
  pub fills : Fills passes (name_by i p f) (length (name_by i p f)) out (answered r) out'

-- ---- reading a name

-- what the searches find: the final that is what is left of a name, the peak and the final, and
-- the three indices of the name; or that no string, no two and no three are it
abbrev pub FinalIs : List ℕ → Option ℕ → Type 0
FinalIs rest (Some f) = (f < 28) × (rest ≡ get_or finals f [])
FinalIs rest None = (f : ℕ) → f < 28 → rest ≡ get_or finals f [] → ⊥

abbrev pub PeakIs : List ℕ → Option (ℕ × ℕ) → Type 0
PeakIs rest (Some (p, f)) = (p < 21) × (f < 28) × (rest ≡ get_or peaks p [] ++ get_or finals f [])
PeakIs rest None = (p f : ℕ) → p < 21 → f < 28 → rest ≡ get_or peaks p [] ++ get_or finals f [] → ⊥

abbrev pub FoundIs : List ℕ → Option Indices → Type 0
FoundIs name (Some indices) = Inside indices × (name ≡ name_by indices.initial indices.peak indices.last)
FoundIs name None = (i p f : ℕ) → i < 19 → p < 21 → f < 28 → name ≡ name_by i p f → ⊥

-- the letters of the peaks
abbrev pub vowel : ℕ → Bool
vowel c = eqb c 0x41 || (eqb c 0x45 || (eqb c 0x49 || (eqb c 0x4F || (eqb c 0x55 || (eqb c 0x57 || eqb c 0x59)))))

-- does a text begin with a letter of the peaks?
abbrev pub vowel_first : List ℕ → Bool
vowel_first [] = false
vowel_first (c ∷ text) = vowel c

-- does a text go on with a string, and after it with a letter of the peaks, or with none, as is
-- wanted?
abbrev pub followed : List ℕ → Bool → List ℕ → Bool
followed string wanted text = begins string text && beq (vowel_first (drop (length string) text)) wanted
