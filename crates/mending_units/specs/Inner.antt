-- What the functions of mending_units ask and promise beside what crate mending, specs/Inner, says
-- for any encoding form: units that pass. In order: what passes at UTF-16 (`PassesUnits`); the
-- units that do so by themselves (`is_jamo`, `quiet`); a run of them (`Trails`); and four at once
-- (`four_of`, `Plain`).
use Rattle.std.specs.Prelude.{◌≡◌, Bool, true, not, ◌&&◌, List, ℕ, ◌+◌, ◌*◌, ◌≤◌, ◌<◌, length, get_or}
use Rattle.laws.specs.Ranges.{within}
use Rattle.utf16.specs.Utf16.{form16}
use Rattle.mending.specs.Inner.{PassesIn}

abbrev pub PassesUnits : List ℕ → ℕ → ℕ → Type 0
PassesUnits = PassesIn form16

-- a letter of the block 1100–11FF
abbrev pub is_jamo : ℕ → Bool
is_jamo a = within 0x1100 0x11FF a

-- a unit that is neither such a letter nor a surrogate: it is a character, and joins with nothing
-- before it
abbrev pub quiet : ℕ → Bool
quiet a = not (is_jamo a) && not (within 0xD800 0xDFFF a)

-- the units from one index up to another are quiet: all but the last pass, and the last does if no
-- letter follows
pub data Trails (text : List ℕ) (from : ℕ) : ℕ → Type 0 where
  nothing : from ≤ length text → Trails text from from
  last : (at : ℕ) → at < length text → PassesUnits text from at → get_or text at 0 < 0x10000 → quiet (get_or text at 0) ≡ true
      → Trails text from (at + 1)

-- four units as one number, the first one lowest
abbrev pub four_of : ℕ → ℕ → ℕ → ℕ → ℕ
four_of a b c d = a + b * 0x10000 + c * 0x100000000 + d * 0x1000000000000

-- four units below 1000
pub record Plain (a b c d : ℕ) : Type 0 where
  pub first : a < 0x1000
  pub second : b < 0x1000
  pub third : c < 0x1000
  pub fourth : d < 0x1000
