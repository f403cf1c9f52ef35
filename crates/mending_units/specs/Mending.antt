-- Mending of UTF-16: document 02, #101. A text of units is read, each unpaired surrogate as one
-- FFFD, joined, and written as units. What mending is in any encoding form stands in crate mending,
-- specs/Mending; here it is taken at UTF-16.
use Rattle.std.specs.Prelude.{List, ℕ}
use Rattle.encodings.specs.Damage.{Transformation}
use Rattle.utf16.specs.Utf16.{form16}
use Rattle.mending.specs.Mending.{mended_in, joined_in}

-- THE MENDED TEXT
abbrev pub mended_units : List ℕ → List ℕ
mended_units = mended_in form16

-- what mending makes of the code points that it reads
abbrev pub joined_units : Transformation ℕ
joined_units = joined_in form16
