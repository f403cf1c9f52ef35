-- Simple form: document 01, 'Simple letters and clusters': full parts, then each code replaced by
-- its letters. And the simple letters of a text, and its other characters.
use Rattle.std.specs.Prelude.{Bool, true, false, cond, not, List, [], ◌∷◌, ℕ}
use Rattle.laws.specs.Lists.{each}
use Rattle.letters.specs.Syllables.{parts_of, full_parts}
use Rattle.clusters.specs.Table.{Place, initial, peak, final, nowhere, place_of, letters_of}

-- SIMPLE FORM
unfoldable pub simple : List ℕ → List ℕ
simple text = each letters_of (full_parts text)

-- of one code point
unfoldable pub simple_of : ℕ → List ℕ
simple_of c = each letters_of (parts_of c)

-- a simple letter: an initial, a peak or a final, fillers not among them
abbrev pub letter_at : Place → Bool
letter_at initial = true
letter_at peak = true
letter_at final = true
letter_at nowhere = false

abbrev pub is_letter : ℕ → Bool
is_letter c = letter_at (place_of c)

-- THE SIMPLE LETTERS of a text, and its other characters, in order
unfoldable pub chosen : (ℕ → Bool) → List ℕ → List ℕ
chosen f [] = []
chosen f (c ∷ x) = cond (f c) (c ∷ chosen f x) (chosen f x)

abbrev pub simple_letters : List ℕ → List ℕ
simple_letters text = chosen is_letter (simple text)

abbrev pub other_characters : List ℕ → List ℕ
other_characters text = chosen (λ c. not (is_letter c)) (simple text)
