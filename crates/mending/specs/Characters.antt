-- The first character of a joined text, found among the pieces of a text of units in any encoding
-- form: a piece takes in the next one as long as the two join. proofs/Characters (`character-next`)
-- shows that the joiner makes the same. Which two join stands in crate joining, specs/Roles.
use Rattle.std.specs.Prelude.{Bool, true, false, cond, List, [], ◌∷◌, ℕ, ◌+◌, eqb, length}
use Rattle.joining.specs.Roles.{pair}
use Rattle.joining.specs.declared.role.Role.{Role}
use Rattle.joining.specs.declared.role.Role.TheVariants.{Initial, Peak, Final, Lv, None}
use Rattle.encodings.specs.Pieces.{Piece, units}
use Rattle.encodings.specs.Damage.{code_of}
use Rattle.encodings.specs.Forms.{Form}
use Rattle.encodings.specs.Reading.{taken_in}
use Rattle.encodings.specs.declared.answer.Taken.{Taken}
use Rattle.utf8.specs.Utf8.{form8}

-- what a character and the next piece join to, or 0
abbrev pub meets_in : Form → Taken → Piece ℕ → ℕ
meets_in f t w = pair t.code (code_of f.encoding w)

-- the character with the next piece taken in
abbrev pub taking_in : Form → Taken → Piece ℕ → Taken
taking_in f t w = record { code = meets_in f t w; size = t.size + length (units w); ill = t.ill }

-- one piece taken in, if it joins
abbrev pub grown_once_in : Form → Taken → List (Piece ℕ) → Taken
grown_once_in f t [] = t
grown_once_in f t (w ∷ P) = cond (eqb (meets_in f t w) 0) t (taking_in f t w)

-- and as many as join
abbrev pub grown_in : Form → Taken → List (Piece ℕ) → Taken
grown_in f t [] = t
grown_in f t (w ∷ P) = cond (eqb (meets_in f t w) 0) t (grown_in f (taking_in f t w) P)

abbrev pub after_first : List (Piece ℕ) → List (Piece ℕ)
after_first [] = []
after_first (w ∷ P) = P

-- THE FIRST CHARACTER: its code point, how many units it takes, and 1 if these are an ill-formed
-- subpart
abbrev pub character_in : Form → List (Piece ℕ) → Taken
character_in f P = grown_in f (taken_in f P) (after_first P)

-- may it join with what stands after it?
abbrev pub role_goes_on : Role → Bool
role_goes_on Initial = true
role_goes_on Peak = false
role_goes_on Final = false
role_goes_on Lv = true
role_goes_on None = false

-- ---- at UTF-8

abbrev pub grown_once : Taken → List (Piece ℕ) → Taken
grown_once = grown_once_in form8

abbrev pub character_from : List (Piece ℕ) → Taken
character_from = character_in form8
