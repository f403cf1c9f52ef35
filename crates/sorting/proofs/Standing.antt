-- The order of two records is a strict order that tells every two records apart.
--
-- In order: what such an order is (`Strict`), over any numbers, and what it says
-- (`before-not-self`, `before-not-back`, `else-before`); THE ORDER OF RECORDS IS ONE
-- (`standing-self`, `standing-equal`, `standing-swapped`, `standing-before`, `standing-strict`);
-- its test (`is-before`, `is-not-before`, `not-before`); and ranking refuses no label
-- (`labels-rank`, `labels-refused`).
use mathlib.Core.Path.{◌≡◌, refl, sym, ◌∙◌, ap}
use mathlib.Core.Bool.{true, false, false≢true}
use mathlib.Core.List.{List}
use Prim.Native.Nat.{ℕ}
use native.Mathlib.Omega.{arith}
use Rattle.std.specs.Prelude.{Result, Ok, Err}
use Rattle.answers.specs.Checks.{passes}
use Rattle.answers.specs.declared.refusal.Refusal.{Refusal}
use Rattle.answers.proofs.Answers.{answered-injective}
use Rattle.answers.proofs.Checks.{units-taken}
use Rattle.ranking.specs.Ranking.{by_value, swapped, then_by, rank_bytes, takes_two_bytes, RanksBytes}
use Rattle.std.specs.declared.cmp.Ordering.{Ordering}
use Rattle.std.specs.declared.cmp.Ordering.TheVariants.{Less, Equal, Greater}
use Rattle.ranking.proofs.Orders.{before-not-equal, before-not-after, equal-value, by-value-self, by-value-swapped, swapped-then, then-equal-next, Chain, chain-value, chain-then, chain-before}
use Rattle.ranking.proofs.Ranks.{bytes-self, bytes-swapped, bytes-chain}
use Rattle.ranking.proofs.Calls.{two-bytes-taken}
use Rattle.labels.specs.Images.{label_at, berth_at}
use Rattle.labels.proofs.Lookups.{label-short}
use Rattle.sorting.specs.Sorting.{standing, is_before}

-- ---- a strict order that tells every two apart

pub record Strict (stands : ℕ → ℕ → Ordering) : Type 0 where
  pub self : (i : ℕ) → stands i i ≡ Equal
  pub equal : (i j : ℕ) → stands i j ≡ Equal → i ≡ j
  pub turned : (i j : ℕ) → stands j i ≡ swapped (stands i j)
  pub before : (i j k : ℕ) → stands i j ≡ Less → stands j k ≡ Less → stands i k ≡ Less

module _ {stands : ℕ → ℕ → Ordering} (strict : Strict stands) where
  pub before-not-self : (i : ℕ) → stands i i ≡ Less → ⊥
  before-not-self i e = before-not-equal (sym e ∙ strict.self i)

  pub before-not-back : (i j : ℕ) → stands i j ≡ Less → stands j i ≡ Less → ⊥
  before-not-back i j e q = before-not-self i (strict.before i j i e q)

  -- of two that differ one stands before the other
  pub else-before : (i j : ℕ) → (stands i j ≡ Less → ⊥) → (i ≡ j → ⊥) → stands j i ≡ Less
  else-before i j h differ = by (stands i j) refl
    where
      by : (o : Ordering) → stands i j ≡ o → stands j i ≡ Less
      by Less e = absurd (h e)
      by Equal e = absurd (differ (strict.equal i j e))
      by Greater e = strict.turned i j ∙ ap swapped e

-- ---- THE ORDER OF RECORDS

module _ (image : List ℕ) where
  -- a record is equal to itself
  pub standing-self : (i : ℕ) → standing image i i ≡ Equal
  unfolding standing
  standing-self i = rw (bytes-self (label_at image i), by-value-self (berth_at image i)) (by-value-self i)

  -- and no other stands there
  pub standing-equal : (i j : ℕ) → standing image i j ≡ Equal → i ≡ j
  unfolding standing
  standing-equal i j e =
      equal-value i j
      (then-equal-next (by_value (berth_at image i) (berth_at image j)) (by_value i j)
      (then-equal-next (rank_bytes (label_at image i) (label_at image j)) (then_by (by_value (berth_at image i) (berth_at image j)) (by_value i j)) e))

  -- one answer tells both ways
  pub standing-swapped : (i j : ℕ) → standing image j i ≡ swapped (standing image i j)
  unfolding standing
  standing-swapped i j =
      rw (bytes-swapped (label_at image i) (label_at image j), by-value-swapped (berth_at image i) (berth_at image j), by-value-swapped i j)
      (simp swapped-then)

  standing-chain : (i j k : ℕ) → Chain (standing image i j) (standing image j k) (standing image i k)
  unfolding standing
  standing-chain i j k =
      chain-then (rank_bytes (label_at image i) (label_at image j)) (rank_bytes (label_at image j) (label_at image k))
      (rank_bytes (label_at image i) (label_at image k)) (then_by (by_value (berth_at image i) (berth_at image j)) (by_value i j))
      (then_by (by_value (berth_at image j) (berth_at image k)) (by_value j k)) (then_by (by_value (berth_at image i) (berth_at image k)) (by_value i k))
      (bytes-chain (label_at image i) (label_at image j) (label_at image k))
      (chain-then (by_value (berth_at image i) (berth_at image j)) (by_value (berth_at image j) (berth_at image k))
      (by_value (berth_at image i) (berth_at image k)) (by_value i j) (by_value j k) (by_value i k)
      (chain-value (berth_at image i) (berth_at image j) (berth_at image k)) (chain-value i j k))

  -- what stands before another, which stands before a third, stands before the third
  pub standing-before : (i j k : ℕ) → standing image i j ≡ Less → standing image j k ≡ Less → standing image i k ≡ Less
  standing-before i j k e q = chain-before (standing image i j) (standing image j k) (standing image i k) (standing-chain i j k) e q

  pub standing-strict : Strict (standing image)
  standing-strict = record { self = standing-self; equal = standing-equal; turned = standing-swapped; before = standing-before }

-- ---- its test

pub is-before : (o : Ordering) → is_before o ≡ true → o ≡ Less
is-before Less e = refl
is-before Equal e = absurd (false≢true e)
is-before Greater e = absurd (false≢true e)

pub is-not-before : (o : Ordering) → is_before o ≡ false → o ≡ Less → ⊥
is-not-before Less e q = false≢true (sym e)
is-not-before Equal e q = before-not-equal (sym q)
is-not-before Greater e q = before-not-after (sym q)

pub not-before : (o : Ordering) → (o ≡ Less → ⊥) → is_before o ≡ false
not-before Less h = absurd (h refl)
not-before Equal h = refl
not-before Greater h = refl

-- ---- ranking refuses no label: r is what it answered of two labels, and o where the first stands

module _ (image : List ℕ) (i j : ℕ) {first second : List ℕ} (one : first ≡ label_at image i) (two : second ≡ label_at image j) {r : Result Ordering Refusal}
    (says : RanksBytes first second r) where
  labels-taken : takes_two_bytes first second ≡ passes
  labels-taken =
      two-bytes-taken first second (units-taken first (rw one (omega (arith, label-short image i))))
      (units-taken second (rw two (omega (arith, label-short image j))))

  labels-answer : r ≡ Ok (rank_bytes first second)
  labels-answer = answered-injective r (Ok (rank_bytes first second)) (rw labels-taken at says.answers)

  pub labels-rank : {o : Ordering} → r ≡ Ok o → o ≡ rank_bytes (label_at image i) (label_at image j)
  labels-rank {o} e =
      let same : o ≡ rank_bytes first second = cc labels-answer in
      rw (one, two) at same

  pub labels-refused : {refusal : Refusal} → r ≡ Err refusal → ⊥
  labels-refused e = let z : ◌≡◌ {A = ℕ} 0 1 = cc labels-answer in omega arith
