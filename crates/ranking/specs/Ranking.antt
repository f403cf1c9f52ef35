-- The rank of two labels: document 01, 'Ranking labels': both texts are joined; numbers stand
-- before code points; numbers rank by value, code points by value; a label whose items are the
-- beginning of another's comes first. And the contracts of the calls.
use Rattle.std.specs.Prelude.{◌≡◌, cond, List, [], ◌∷◌, ℕ, ◌<◌, ltb, length, Result}
use Rattle.answers.specs.Checks.{Check, in_order, over_limit, bad_code_point, takes_bytes}
use Rattle.answers.specs.Verdicts.{verdict}
use Rattle.answers.specs.Answers.{answered}
use Rattle.answers.specs.declared.refusal.Refusal.{Refusal}
use Rattle.joining.specs.Joining.{join}
use Rattle.utf8.specs.Utf8.{read_text}
use Rattle.ranking.specs.Items.{Item, number, character, items}
use Rattle.std.specs.declared.cmp.Ordering.{Ordering}
use Rattle.std.specs.declared.cmp.Ordering.TheVariants.{Less, Equal, Greater}

-- ---- the three answers

-- the number of each, for callers that take a number (include/pulphopper.h)
abbrev pub order_number : Ordering → ℕ
order_number Less = 0
order_number Equal = 1
order_number Greater = 2

-- what each says of two numbers
abbrev pub Says : Ordering → ℕ → ℕ → Type 0
Says Less a b = a < b
Says Equal a b = a ≡ b
Says Greater a b = b < a

-- and the one that is true of them
unfoldable pub by_value : ℕ → ℕ → Ordering
by_value a b = cond (ltb a b) Less (cond (ltb b a) Greater Equal)

-- the same seen from the second label
abbrev pub swapped : Ordering → Ordering
swapped Less = Greater
swapped Equal = Equal
swapped Greater = Less

-- a comparison, and if it says equal, the next one
abbrev pub then_by : Ordering → Ordering → Ordering
then_by Less next = Less
then_by Equal next = next
then_by Greater next = Greater

-- ---- THE RANK

abbrev pub rank_item : Item → Item → Ordering
rank_item (number a) (number b) = by_value a b
rank_item (number a) (character b) = Less
rank_item (character a) (number b) = Greater
rank_item (character a) (character b) = by_value a b

abbrev pub rank_items : List Item → List Item → Ordering
rank_items [] [] = Equal
rank_items [] (b ∷ y) = Less
rank_items (a ∷ x) [] = Greater
rank_items (a ∷ x) (b ∷ y) = then_by (rank_item a b) (rank_items x y)

-- of two texts of code points, joined
unfoldable pub rank : List ℕ → List ℕ → Ordering
rank first second = rank_items (items (join first)) (items (join second))

-- of two texts of bytes, as mending reads them
unfoldable pub rank_bytes : List ℕ → List ℕ → Ordering
rank_bytes first second = rank (read_text first) (read_text second)

-- ---- at most

-- the first label does not stand after the second
abbrev pub AtMost : List ℕ → List ℕ → Type 0
AtMost first second = rank first second ≡ Greater → ⊥

-- ---- the contracts

-- 1 for the first text, then 1 for the second, then 2 likewise
unfoldable pub takes_two : List ℕ → List ℕ → Check
takes_two first second =
    in_order (over_limit 16384 (length first) ∷ over_limit 16384 (length second) ∷ bad_code_point first ∷ bad_code_point second ∷ [])

-- of bytes only 1
unfoldable pub takes_two_bytes : List ℕ → List ℕ → Check
takes_two_bytes first second = in_order (takes_bytes first ∷ takes_bytes second ∷ [])

-- THE CONTRACT of ranking code points: 1 and 2
pub record Ranks (first second : List ℕ) (r : Result Ordering Refusal) : Type 0 where
  pub answers : answered r ≡ verdict (takes_two first second) (rank first second)

-- THE CONTRACT of ranking bytes: 1
pub record RanksBytes (first second : List ℕ) (r : Result Ordering Refusal) : Type 0 where
  pub answers : answered r ≡ verdict (takes_two_bytes first second) (rank_bytes first second)
