-- Document 01's repertoire, and what the Unicode Character Database (UCD), version 15.0, says of
-- its characters: each clause names the file or the section of the Standard that it can be compared
-- with.
--
-- In order: the repertoire; the record `Ucd`.
use Rattle.std.specs.Prelude.{◌≡◌, true, false, ◌⊎◌, [], ◌∷◌, ℕ, ◌≤◌, ◌<◌}
use Rattle.laws.specs.Lists.{All}
use Rattle.letters.specs.Chapter3.{precomposed, mapping}
use Rattle.normal.specs.Forms.{Database, nfd, Primary, Sound}

-- ASCII, U+1100 to U+11FF, U+AC00 to U+D7A3, and the tone marks U+302E and U+302F
pub data Repertoire (c : ℕ) : Type 0 where
  ascii : c ≤ 0x7F → Repertoire c
  letter : 0x1100 ≤ c → c ≤ 0x11FF → Repertoire c
  whole : 0xAC00 ≤ c → c ≤ 0xD7A3 → Repertoire c
  tone : 0x302E ≤ c → c ≤ 0x302F → Repertoire c

pub record Ucd (db : Database) : Type 0 where
  -- no file: `depth` and `composite` are to follow from the mappings and the exclusions as D68 and
  -- D117 say
  pub sound : Sound db
  -- UnicodeData.txt, Canonical_Combining_Class: 224 at 302E and 302F, 0 at all others of the
  -- repertoire
  pub tones : (c : ℕ) → 0x302E ≤ c → c ≤ 0x302F → db.ccc c ≡ 224
  pub starters : (c : ℕ) → Repertoire c → (c < 0x302E) ⊎ (0x302F < c) → db.ccc c ≡ 0
  -- UnicodeData.txt, Decomposition_Mapping: none in the repertoire but the syllables', which it
  -- leaves to section 3.12
  pub unmapped : (c : ℕ) → Repertoire c → precomposed c ≡ false → db.mapping c ≡ c ∷ []
  -- section 3.12, 'Arithmetic Decomposition Mapping'
  pub arithmetic : (c : ℕ) → precomposed c ≡ true → db.mapping c ≡ mapping c
  -- DerivedNormalizationProps.txt, Full_Composition_Exclusion: none of the repertoire
  pub none-excluded : (c : ℕ) → Repertoire c → db.excluded c ≡ false
  -- UnicodeData.txt with DerivedNormalizationProps.txt: what lies outside the repertoire and
  -- decomposes wholly into it (037E, 1FEF, 212A) is excluded
  pub no-others : (p : ℕ) → Primary db p → All Repertoire (nfd db (p ∷ [])) → Repertoire p
