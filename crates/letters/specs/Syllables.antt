-- Taking syllables apart: document 01, 'Syllables'. A text is a list of code points.
use Rattle.std.specs.Prelude.{Bool, cond, List, [], ◌∷◌, ℕ, zero, suc, ◌+◌, ◌-◌, ◌/◌, ◌%◌, eqb}
use Rattle.laws.specs.Lists.{each}
use Rattle.laws.specs.Ranges.{within}

unfoldable pub is_syllable : ℕ → Bool
is_syllable s = within 0xAC00 0xD7A3 s

-- the index C, and I, P and F
abbrev pub index_of : ℕ → ℕ
index_of s = s - 0xAC00

abbrev pub initial_of : ℕ → ℕ
initial_of s = index_of s / 588

abbrev pub peak_of : ℕ → ℕ
peak_of s = index_of s % 588 / 28

abbrev pub final_of : ℕ → ℕ
final_of s = index_of s % 28

-- one step: an LV becomes 1100+I, 1161+P; an LVT becomes the LV of index C − F, then 11A7+F; any
-- other code point is itself
unfoldable pub one_step : ℕ → List ℕ
one_step s =
    cond (is_syllable s)
    (cond (eqb (final_of s) 0)
    ((0x1100 + initial_of s) ∷ (0x1161 + peak_of s) ∷ [])
    ((0xAC00 + (index_of s - final_of s)) ∷ (0x11A7 + final_of s) ∷ []))
    (s ∷ [])

-- the one-step parts taken apart again, down to the depth
unfoldable pub parts_to : ℕ → ℕ → List ℕ
parts_to zero c = c ∷ []
parts_to (suc depth) c = each (λ p. parts_to depth p) (one_step c)

-- full parts: at the depth 2 nothing changes any more (`parts-closed` of proofs/FullParts)
abbrev pub parts_of : ℕ → List ℕ
parts_of c = parts_to 2 c

abbrev pub full_parts : List ℕ → List ℕ
full_parts text = each parts_of text
