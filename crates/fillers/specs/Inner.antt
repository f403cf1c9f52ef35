-- What the functions inside this crate promise: a table of numbers in which one stands for none,
-- and the syllable of a group. The groups stand in
-- specs/Groups.
use Rattle.std.specs.Prelude.{Option as Answer, Some, None, ◌≡◌, cond, List, [], ◌∷◌, ℕ, ◌+◌, ◌*◌, ◌<◌, eqb, length, get_or}
use Rattle.std.proofs.Math.Option.{Option, none, some}
use Rattle.fillers.specs.Groups.{pairs, initial, initial_in, final_in, group_of}

-- 99 stands for none
abbrev pub or_none : Option ℕ → ℕ
or_none none = 99
or_none (some n) = n

-- and what a number says that was read
abbrev pub number_or_none : ℕ → Answer ℕ
number_or_none n = cond (eqb n 99) None (Some n)

-- the table has I and F of each pair, in order
pub record Pairs (table : List ℕ) : Type 0 where
  pub size : 60 ≡ length table
  pub initials : (k : ℕ) → k < 30 → get_or table (2 * k) 0 ≡ or_none (initial_in (get_or pairs k (initial 0)))
  pub finals : (k : ℕ) → k < 30 → get_or table (2 * k + 1) 0 ≡ or_none (final_in (get_or pairs k (initial 0)))

-- the group that a text begins with
abbrev pub group_at : List ℕ → Option (List ℕ)
group_at [] = none
group_at (d ∷ []) = none
group_at (d ∷ a ∷ []) = none
group_at (d ∷ a ∷ b ∷ []) = none
group_at (d ∷ a ∷ b ∷ c ∷ x) = group_of d a b c

-- its syllable
abbrev pub syllable_in : Option (List ℕ) → Answer ℕ
syllable_in none = None
syllable_in (some meaning) = Some (get_or meaning 0 0)
