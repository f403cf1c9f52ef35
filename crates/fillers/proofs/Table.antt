-- The table of the letters 3131 to 314E. In order: a table of numbers has I and F of the pairs, by
-- one test over all pairs, which antt computes (`pairs-right`); every I of a pair is below 19 and
-- every F below 28, by another (`initials-below`, `finals-below`).
use mathlib.Core.Path.{◌≡◌, refl}
use mathlib.Core.Bool.{Bool, true, ◌&&◌}
use mathlib.Core.Option.{Option, none, some}
use mathlib.Core.List.{List}
use Prim.Native.Nat.{ℕ, ◌+◌, ◌*◌, ◌<◌}
use lib.Dec.{T, eqb, ltb}
use lib.ListN.{length, get_or}
use borrow.Author.Tests.{eqb-true}
use Rattle.laws.proofs.Bools.{T_true, and-T-left, and-T-right}
use Rattle.laws.proofs.Tables.{every, every-at}
use Rattle.fillers.specs.Groups.{Pair, initial, pairs, initial_in, final_in}
use Rattle.fillers.specs.Inner.{or_none, Pairs}

-- ---- the table

pairs-many : 30 ≡ length pairs
unfolding pairs
pairs-many = refl

-- the numbers at 2k and 2k + 1 are the pair's I and F
abbrev right_initial : List ℕ → ℕ → Pair → Bool
right_initial table k pair = eqb (get_or table (2 * k) 0) (or_none (initial_in pair))

abbrev right_final : List ℕ → ℕ → Pair → Bool
right_final table k pair = eqb (get_or table (2 * k + 1) 0) (or_none (final_in pair))

abbrev pub right_pair : List ℕ → ℕ → Pair → Bool
right_pair table k pair = right_initial table k pair && right_final table k pair

pub pairs-right : (table : List ℕ) → 60 ≡ length table → T (every (right_pair table) 0 pairs) → Pairs table
pairs-right table size t = record {
  size = size;
  initials = λ k h. eqb-true _ _ (T_true _ (and-T-left (right_initial table k (entry k)) (right_final table k (entry k)) (right k h)));
  finals = λ k h. eqb-true _ _ (T_true _ (and-T-right (right_initial table k (entry k)) (right_final table k (entry k)) (right k h)));
}
  where
    entry : ℕ → Pair
    entry k = get_or pairs k (initial 0)

    right : (k : ℕ) → k < 30 → T (right_pair table k (entry k))
    right k h = every-at (right_pair table) (initial 0) pairs t k (rw (← pairs-many) h)

-- ---- the bounds

-- a number, if there is one, is below n
abbrev pub below : ℕ → Option ℕ → Bool
below n none = true
below n (some k) = ltb k n

abbrev small_pair : ℕ → Pair → Bool
small_pair k pair = below 19 (initial_in pair) && below 28 (final_in pair)

pairs_small : T (every small_pair 0 pairs)
unfolding pairs
pairs_small = tt

module _ (k : ℕ) (inside : k < 30) where
  pair_small : T (small_pair k (get_or pairs k (initial 0)))
  pair_small = every-at small_pair (initial 0) pairs pairs_small k (rw (← pairs-many) inside)

  pub initials-below : T (below 19 (initial_in (get_or pairs k (initial 0))))
  initials-below = and-T-left (below 19 (initial_in (get_or pairs k (initial 0)))) (below 28 (final_in (get_or pairs k (initial 0)))) pair_small

  pub finals-below : T (below 28 (final_in (get_or pairs k (initial 0))))
  finals-below = and-T-right (below 19 (initial_in (get_or pairs k (initial 0)))) (below 28 (final_in (get_or pairs k (initial 0)))) pair_small
