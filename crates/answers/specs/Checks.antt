-- The checks of document 01, 'Refusal numbers': what 1, 2 and 3 are given for, with which place,
-- and that the first check that refuses counts. It knows the paper's numbers alone: nothing of the
-- code's enums (specs/Answers), nor of Hangul. The checks of 4 to 7 stand in the crates that make
-- them.
use Rattle.std.specs.Prelude.{Bool, cond, ◌||◌, List, [], ◌∷◌, ℕ, ltb, length}
use Rattle.laws.specs.Lists.{first_where}
use Rattle.laws.specs.Ranges.{within}

-- what a check says: it passes, or it refuses with a number and a place
pub data Check : Type 0 where
  passes : Check
  refuses : ℕ → ℕ → Check

-- checks go in order, and the first that refuses counts
abbrev pub in_order : List Check → Check
in_order [] = passes
in_order (passes ∷ checks) = in_order checks
in_order (refuses number place ∷ checks) = refuses number place

-- 1: over the limit; the place is the limit
unfoldable pub over_limit : ℕ → ℕ → Check
over_limit limit size = cond (ltb limit size) (refuses 1 limit) passes

-- a code point over 10FFFF or in D800–DFFF
unfoldable pub bad : ℕ → Bool
bad code = ltb 0x10FFFF code || within 0xD800 0xDFFF code

-- the index of the first bad code point, or the length if there is none
abbrev pub first_bad : List ℕ → ℕ
first_bad = first_where bad

-- 2: a bad code point; the place is the index of the first such
unfoldable pub bad_code_point : List ℕ → Check
bad_code_point text = cond (ltb (first_bad text) (length text)) (refuses 2 (first_bad text)) passes

-- 3: the answer is longer than the lent buffer; the place is the length needed
unfoldable pub no_room : ℕ → ℕ → Check
no_room room needed = cond (ltb room needed) (refuses 3 needed) passes

-- what precedes 3 if a text of code points is taken: 1, then 2
unfoldable pub takes_text : List ℕ → Check
takes_text text = in_order (over_limit 16384 (length text) ∷ bad_code_point text ∷ [])

-- and if a text of code units is taken, as of bytes: 1
unfoldable pub takes_units : List ℕ → Check
takes_units units = over_limit 16384 (length units)

abbrev pub takes_bytes : List ℕ → Check
takes_bytes = takes_units
