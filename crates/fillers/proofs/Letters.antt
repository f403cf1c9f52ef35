-- Laws of the letters of KS X 1001: I, P and F of one code point. In order: by its range; as the
-- code reads them from its table; the filler is no initial and no peak; their bounds; what 99, and
-- any other number, says of what was read; what is as_answer, and its most.
use mathlib.Core.Path.{◌≡◌, refl, sym, ◌∙◌, ap}
use mathlib.Core.Bool.{Bool, true, false, cond}
use mathlib.Core.Option.{Option, none, some, none-ne-some}
use mathlib.Core.List.{List}
use Prim.Native.Nat.{ℕ, ◌+◌, ◌-◌, ◌*◌, ◌≤◌, ◌<◌}
use native.Mathlib.Omega.{arith}
use lib.Dec.{T, eqb, ltb}
use lib.ListN.{get_or}
use borrow.Author.Tests.{eq-eqb, ne_eqb, lt-ltb, ltb-true}
use Rattle.std.specs.Prelude.{Some, None}
use Rattle.std.proofs.lemmas.Option.{none-some, same_Some}
use Rattle.laws.specs.Ranges.{within}
use Rattle.laws.proofs.Bools.{T_true, true-T}
use Rattle.laws.proofs.Ranges.{within-yes, within-below, within-above, within-least, within-most}
use Rattle.fillers.specs.Groups.{initial, pairs, initial_in, final_in, as_initial, as_peak, as_final}
use Rattle.laws.specs.Options.{as_answer}
use Rattle.fillers.specs.Inner.{or_none, number_or_none, Pairs}
use Rattle.fillers.proofs.Table.{below, initials-below, finals-below}

-- ---- by the range

module _ (c : ℕ) where
  initial-inside : 0x3131 ≤ c → c ≤ 0x314E → as_initial c ≡ initial_in (get_or pairs (c - 0x3131) (initial 0))
  unfolding as_initial
  initial-inside l h = rw (within-yes 0x3131 0x314E c l h)

  pub initial-low : c < 0x3131 → as_initial c ≡ none
  unfolding as_initial
  initial-low h = rw (within-below 0x3131 0x314E c h)

  pub initial-high : 0x314E < c → as_initial c ≡ none
  unfolding as_initial
  initial-high h = rw (within-above 0x3131 0x314E c h)

  pub peak-inside : 0x314F ≤ c → c ≤ 0x3163 → as_peak c ≡ some (c - 0x314F)
  unfolding as_peak
  peak-inside l h = rw (within-yes 0x314F 0x3163 c l h)

  pub peak-low : c < 0x314F → as_peak c ≡ none
  unfolding as_peak
  peak-low h = rw (within-below 0x314F 0x3163 c h)

  pub peak-high : 0x3163 < c → as_peak c ≡ none
  unfolding as_peak
  peak-high h = rw (within-above 0x314F 0x3163 c h)

  pub final-filler : c ≡ 0x3164 → as_final c ≡ some 0
  unfolding as_final
  final-filler e = rw (eq-eqb c 0x3164 e)

  final-inside : 0x3131 ≤ c → c ≤ 0x314E → as_final c ≡ final_in (get_or pairs (c - 0x3131) (initial 0))
  unfolding as_final
  final-inside l h = rw (ne_eqb c 0x3164 (λ e. omega arith), within-yes 0x3131 0x314E c l h)

  pub final-low : c < 0x3131 → as_final c ≡ none
  unfolding as_final
  final-low h = rw (ne_eqb c 0x3164 (λ e. omega arith), within-below 0x3131 0x314E c h)

  pub final-high : 0x314E < c → (c ≡ 0x3164 → ⊥) → as_final c ≡ none
  unfolding as_final
  final-high h n = rw (ne_eqb c 0x3164 n, within-above 0x3131 0x314E c h)

-- ---- as the code reads them from its table

module _ {table : List ℕ} (right : Pairs table) (c : ℕ) (least : 0x3131 ≤ c) (most : c ≤ 0x314E) where
  initial-read : get_or table (2 * (c - 0x3131)) 0 ≡ or_none (as_initial c)
  initial-read = right.initials (c - 0x3131) (omega arith) ∙ sym (ap or_none (initial-inside c least most))

  final-read : get_or table (2 * (c - 0x3131) + 1) 0 ≡ or_none (as_final c)
  final-read = right.finals (c - 0x3131) (omega arith) ∙ sym (ap or_none (final-inside c least most))

-- ---- the filler is no initial and no peak

pub initial-no-filler : as_initial 0x3164 ≡ none
initial-no-filler = initial-high 0x3164 (omega arith)

pub peak-no-filler : as_peak 0x3164 ≡ none
peak-no-filler = peak-high 0x3164 (omega arith)

-- ---- the bounds

inside-below : (n lo hi c : ℕ) (o : Option ℕ) → (lo ≤ c → c ≤ hi → T (below n o)) → T (below n (cond (within lo hi c) o none))
inside-below n lo hi c o inside = by (within lo hi c) refl
  where
    by : (b : Bool) → within lo hi c ≡ b → T (below n (cond b o none))
    by true e = inside (within-least lo hi c e) (within-most lo hi c e)
    by false e = tt

module _ (c : ℕ) where
  pub initial-below : T (below 19 (as_initial c))
  unfolding as_initial
  initial-below = inside-below 19 0x3131 0x314E c _ (λ l h. initials-below (c - 0x3131) (omega arith))

  pub peak-below : T (below 21 (as_peak c))
  unfolding as_peak
  peak-below = inside-below 21 0x314F 0x3163 c _ (λ l h. true-T _ (lt-ltb (c - 0x314F) 21 (omega arith)))

  pub final-below : T (below 28 (as_final c))
  unfolding as_final
  final-below = by (eqb c 0x3164) _ (inside-below 28 0x3131 0x314E c _ (λ l h. finals-below (c - 0x3131) (omega arith)))
    where
      by : (b : Bool) (o : Option ℕ) → T (below 28 o) → T (below 28 (cond b (some 0) o))
      by true o t = tt
      by false o t = t

-- a number that is there is below the bound
pub below-some : (n : ℕ) (o : Option ℕ) {k : ℕ} → T (below n o) → o ≡ some k → k < n
below-some n o {k} t e = ltb-true k n (T_true (ltb k n) (rw e at t))

-- ---- what a number that was read says: 99 that there is none, any other that it is there

listed-right : (n : ℕ) (o : Option ℕ) → T (below n o) → n ≤ 99 → number_or_none (or_none o) ≡ as_answer o
listed-right n none small few = refl
listed-right n (some k) small few = let other : k ≡ 99 → ⊥ = λ e. omega (arith, e, below-some n (some k) small refl) in simp (ne_eqb k 99 other)

module _ {table : List ℕ} (right : Pairs table) (c : ℕ) (least : 0x3131 ≤ c) (most : c ≤ 0x314E) where
  pub initial-listed : number_or_none (get_or table (2 * (c - 0x3131)) 0) ≡ as_answer (as_initial c)
  initial-listed = ap number_or_none (initial-read right c least most) ∙ listed-right 19 (as_initial c) (initial-below c) (omega arith)

  pub final-listed : number_or_none (get_or table (2 * (c - 0x3131) + 1) 0) ≡ as_answer (as_final c)
  final-listed = ap number_or_none (final-read right c least most) ∙ listed-right 28 (as_final c) (final-below c) (omega arith)

-- a number that was as_answer is there, and is small, so that the code's sum fits
pub as_answer-some : (o : Option ℕ) {r : ℕ} → Some r ≡ as_answer o → o ≡ some r
as_answer-some none e = absurd (none-some _ (sym e))
as_answer-some (some k) e = ap some (sym (same_Some _ _ e))

pub as_answer-none : (o : Option ℕ) {k : ℕ} → None ≡ as_answer o → o ≡ some k → ⊥
as_answer-none none e w = none-ne-some _ w
as_answer-none (some k) e w = none-some _ e

module _ (c : ℕ) {r : ℕ} where
  pub initial-most : Some r ≡ as_answer (as_initial c) → r < 19
  initial-most e = below-some 19 (as_initial c) (initial-below c) (as_answer-some (as_initial c) e)

  pub peak-most : Some r ≡ as_answer (as_peak c) → r < 21
  peak-most e = below-some 21 (as_peak c) (peak-below c) (as_answer-some (as_peak c) e)

  pub final-most : Some r ≡ as_answer (as_final c) → r < 28
  final-most e = below-some 28 (as_final c) (final-below c) (as_answer-some (as_final c) e)
