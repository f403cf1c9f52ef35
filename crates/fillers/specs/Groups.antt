-- Filler groups: document 01, 'Filler groups (KS X 1001)'. Four code points 3164, a, b, c become a
-- syllable when a is an initial, b a peak and c a final or 3164. Groups are taken from the left.
use Rattle.std.specs.Prelude.{cond, List, [], ◌∷◌, ◌++◌, ℕ, ◌+◌, ◌-◌, ◌*◌, eqb, get_or}
use Rattle.std.proofs.Math.Option.{Option, none, some}
use Rattle.laws.specs.Ranges.{within}

-- what a letter from 3131 to 314E can be: an initial and a final, or one of them
pub data Pair : Type 0 where
  both : ℕ → ℕ → Pair
  initial : ℕ → Pair
  final : ℕ → Pair

-- (I, F) for 3131 to 314E, in order
unfoldable pub pairs : List Pair
pairs =
    both 0 1 ∷ both 1 2 ∷ final 3 ∷ both 2 4 ∷ final 5 ∷ final 6 ∷ both 3 7 ∷ initial 4 ∷ both 5 8 ∷ final 9
    ∷ final 10 ∷ final 11 ∷ final 12 ∷ final 13 ∷ final 14 ∷ final 15 ∷ both 6 16 ∷ both 7 17 ∷ initial 8 ∷ final 18
    ∷ both 9 19 ∷ both 10 20 ∷ both 11 21 ∷ both 12 22 ∷ initial 13 ∷ both 14 23 ∷ both 15 24 ∷ both 16 25 ∷ both 17 26 ∷ both 18 27 ∷ []

abbrev pub initial_in : Pair → Option ℕ
initial_in (both i f) = some i
initial_in (initial i) = some i
initial_in (final f) = none

abbrev pub final_in : Pair → Option ℕ
final_in (both i f) = some f
final_in (initial i) = none
final_in (final f) = some f

-- I of a code point that is an initial, P of a peak, F of a final; a filler at the end stands for
-- no final
unfoldable pub as_initial : ℕ → Option ℕ
as_initial c = cond (within 0x3131 0x314E c) (initial_in (get_or pairs (c - 0x3131) (initial 0))) none

unfoldable pub as_peak : ℕ → Option ℕ
as_peak c = cond (within 0x314F 0x3163 c) (some (c - 0x314F)) none

unfoldable pub as_final : ℕ → Option ℕ
as_final c = cond (eqb c 0x3164) (some 0) (cond (within 0x3131 0x314E c) (final_in (get_or pairs (c - 0x3131) (initial 0))) none)

-- the meaning of a group, a list of code points: the syllable, if there are all three
abbrev pub meaning_of : Option ℕ → Option ℕ → Option ℕ → Option (List ℕ)
meaning_of none p f = none
meaning_of (some i) none f = none
meaning_of (some i) (some p) none = none
meaning_of (some i) (some p) (some f) = some ((0xAC00 + i * 588 + p * 28 + f) ∷ [])

-- do four code points make a group, and of which meaning?
unfoldable pub group_of : ℕ → ℕ → ℕ → ℕ → Option (List ℕ)
group_of d a b c = cond (eqb d 0x3164) (meaning_of (as_initial a) (as_peak b) (as_final c)) none

-- THE TEXT WITH ITS GROUPS TURNED: from the left, going on after each group; if none begins, one
-- code point is copied. `after` is what follows the group, turned; `copied` is what follows the one
-- code point, turned
abbrev pub turned_by : Option (List ℕ) → ℕ → List ℕ → List ℕ → List ℕ
turned_by none d after copied = d ∷ copied
turned_by (some meaning) d after copied = meaning ++ after

unfoldable pub turned : List ℕ → List ℕ
turned [] = []
turned (d ∷ []) = d ∷ []
turned (d ∷ a ∷ []) = d ∷ a ∷ []
turned (d ∷ a ∷ b ∷ []) = d ∷ a ∷ b ∷ []
turned (d ∷ a ∷ b ∷ c ∷ x) = turned_by (group_of d a b c) d (turned x) (turned (a ∷ b ∷ c ∷ x))
