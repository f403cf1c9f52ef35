-- The items of a label: document 01, 'Ranking labels': a longest run of ASCII digits is a number of
-- any length, any other code point is itself. `items` computes them. `Itemised` says what has to be
-- true of them; proofs/Items shows that it holds of these alone.
use Rattle.std.specs.Prelude.{◌≡◌, Bool, true, false, cond, List, [], ◌∷◌, ◌++◌, ℕ, ◌+◌, ◌-◌, ◌*◌, ◌^◌, length}
use Rattle.laws.specs.Lists.{All}
use Rattle.laws.specs.Ranges.{within}

pub data Item : Type 0 where
  number : ℕ → Item
  character : ℕ → Item

-- 0 to 9 of ASCII, and no other digits
unfoldable pub is_digit : ℕ → Bool
is_digit c = within 0x30 0x39 c

-- the longest run of digits at the front of a text
unfoldable pub run : List ℕ → List ℕ
run [] = []
run (c ∷ x) = cond (is_digit c) (c ∷ run x) []

-- the natural number that digits write: each counts ten times as much as the next
unfoldable pub digits_value : List ℕ → ℕ
digits_value [] = 0
digits_value (d ∷ x) = (d - 0x30) * 10 ^ length x + digits_value x

-- the items of a text, after a digit or not: after a digit a digit is in its number already
unfoldable pub items_after : Bool → List ℕ → List Item
items_after digit [] = []
items_after digit (c ∷ x) =
    cond (is_digit c)
    (cond digit (items_after true x) (number (digits_value (run (c ∷ x))) ∷ items_after true x))
    (character c ∷ items_after false x)

-- THE ITEMS
abbrev pub items : List ℕ → List Item
items text = items_after false text

-- ---- what has to be true of them

-- no digit stands in front
abbrev pub Ends : List ℕ → Type 0
Ends [] = Unit {0}
Ends (c ∷ x) = is_digit c ≡ false

-- a text of no characters has no items; a code point that is no digit is itself; and digits that
-- are as many as there are, are one number
pub data Itemised : List ℕ → List Item → Type 0 where
  none : Itemised [] []
  other : (c : ℕ) {x : List ℕ} {i : List Item} → is_digit c ≡ false → Itemised x i → Itemised (c ∷ x) (character c ∷ i)
  digits : (d : ℕ) (r : List ℕ) {x : List ℕ} {i : List Item} → All (λ c. is_digit c ≡ true) (d ∷ r) → Ends x → Itemised x i
      → Itemised (d ∷ r ++ x) (number (digits_value (d ∷ r)) ∷ i)
