-- An encoding form: The Unicode Standard 15.0, chapter 3, D79. Each scalar value has a code unit
-- sequence of its own. And texts of units in any such form: what they read as, how many ill-formed
-- subparts they have, and what is written. No one form here.
use Rattle.std.specs.Prelude.{◌≡◌, false, cond, List, [], ◌∷◌, ℕ, ◌+◌, leb, length}
use Rattle.laws.specs.Lists.{each}
use Rattle.answers.specs.Checks.{bad}
use Rattle.encodings.specs.Pieces.{full, Piece, good, ill, pieces, ill_count}
use Rattle.encodings.specs.Readings.{Coherent}
use Rattle.encodings.specs.Damage.{Encoding, Leads, codes}

pub record Form : Type 0 where
  pub encoding : Encoding ℕ
  -- the units of a scalar value
  pub units : ℕ → List ℕ

-- what makes it one: its kinds are coherent, and lead units begin a sequence; each well-formed
-- sequence has a scalar value, and is that value's sequence; and each scalar value's sequence is
-- well-formed, and has that value
pub record Encodes (f : Form) : Type 0 where
  pub coherent : Coherent f.encoding.kind
  pub leads : Leads f.encoding
  pub full-good : (u : List ℕ) → f.encoding.kind u ≡ full → bad (f.encoding.code u) ≡ false
  pub full-units : (u : List ℕ) → f.encoding.kind u ≡ full → f.units (f.encoding.code u) ≡ u
  pub units-full : (c : ℕ) → bad c ≡ false → f.encoding.kind (f.units c) ≡ full
  pub units-code : (c : ℕ) → bad c ≡ false → f.encoding.code (f.units c) ≡ c

-- ---- texts

-- the pieces of a text: well-formed sequences, and ill-formed subparts between them
abbrev pub pieces_in : Form → List ℕ → List (Piece ℕ)
pieces_in f = pieces f.encoding.kind

-- reading a text of units: its code points, with one FFFD for each ill-formed maximal subpart; and
-- how many of these there are
abbrev pub read_in : Form → List ℕ → List ℕ
read_in f text = codes f.encoding (pieces_in f text)

abbrev pub ill_in : Form → List ℕ → ℕ
ill_in f text = ill_count (pieces_in f text)

-- the index of the first ill-formed subpart, or the length of the text if there is none
abbrev pub before_ill : List (Piece ℕ) → ℕ
before_ill [] = 0
before_ill (good u ∷ P) = length u + before_ill P
before_ill (ill u ∷ P) = 0

unfoldable pub first_ill_in : Form → List ℕ → ℕ
first_ill_in f text = before_ill (pieces_in f text)

-- the units of one code point; a number over 10FFFF has none
unfoldable pub code_units : Form → ℕ → List ℕ
code_units f c = cond (leb c 0x10FFFF) (f.units c) []

-- writing a text of code points
abbrev pub write_in : Form → List ℕ → List ℕ
write_in f text = each f.units text
