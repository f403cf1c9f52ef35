-- The line of one character: document 01, 'Programs', the lister. It has the code in capital hex of
-- four to six digits, a space, then the character's name, or - if it has none.
use Rattle.std.specs.Prelude.{cond, List, [], ◌∷◌, ◌++◌, ℕ}
use Rattle.laws.specs.Strings.{ascii}
use Rattle.letters.specs.Syllables.{is_syllable}
use Rattle.names.specs.Names.{name_of}
use Rattle.listing.specs.Hex.{hex_of}

-- its name, or - if it has none
unfoldable pub name_or_none : ℕ → List ℕ
name_or_none c = cond (is_syllable c) (name_of c) (ascii "-")

-- THE LINE, which a line feed ends
unfoldable pub line_of : ℕ → List ℕ
line_of c = hex_of c ++ (ascii " " ++ (name_or_none c ++ (0x0A ∷ [])))
