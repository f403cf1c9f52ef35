-- Laws of the syllables and of the one step: index, I, P and F determine and are determined by the
-- syllable; the one step in its three cases.
use mathlib.Core.Path.{◌≡◌, refl}
use mathlib.Core.Bool.{Bool, true, false}
use mathlib.Core.List.{[], ◌∷◌}
use Prim.Native.Nat.{ℕ, ◌+◌, ◌-◌, ◌*◌, ◌/◌, ◌≤◌, ◌<◌}
use native.Mathlib.Omega.{arith}
use lib.Dec.{eqb}
use borrow.Author.Tests.{eq-eqb, ne_eqb, eqb-true, eqb-false}
use Rattle.laws.proofs.Ranges.{within-yes, within-below, within-above, within-least, within-most}
use Rattle.letters.specs.Syllables.{is_syllable, index_of, initial_of, peak_of, final_of, one_step}

-- ---- the syllables AC00–D7A3

module _ (s : ℕ) where
  pub syllable-yes : 0xAC00 ≤ s → s ≤ 0xD7A3 → is_syllable s ≡ true
  unfolding is_syllable
  syllable-yes l h = within-yes 0xAC00 0xD7A3 s l h

  pub syllable-below : s < 0xAC00 → is_syllable s ≡ false
  unfolding is_syllable
  syllable-below h = within-below 0xAC00 0xD7A3 s h

  pub syllable-above : 0xD7A3 < s → is_syllable s ≡ false
  unfolding is_syllable
  syllable-above h = within-above 0xAC00 0xD7A3 s h

  pub syllable-least : is_syllable s ≡ true → 0xAC00 ≤ s
  unfolding is_syllable
  syllable-least e = within-least 0xAC00 0xD7A3 s e

  pub syllable-most : is_syllable s ≡ true → s ≤ 0xD7A3
  unfolding is_syllable
  syllable-most e = within-most 0xAC00 0xD7A3 s e

-- ---- I, P and F

-- the syllable of I, P and F
abbrev pub syllable : ℕ → ℕ → ℕ → ℕ
syllable i p f = 0xAC00 + i * 588 + p * 28 + f

-- a syllable is that of its I, P and F, which are below 19, 21 and 28
module _ (s : ℕ) (least : 0xAC00 ≤ s) (most : s ≤ 0xD7A3) where
  pub initial-below : initial_of s < 19
  initial-below = omega arith

  pub peak-below : peak_of s < 21
  peak-below = omega arith

  pub final-below : final_of s < 28
  final-below = omega arith

  pub syllable-determined : syllable (initial_of s) (peak_of s) (final_of s) ≡ s
  syllable-determined = omega arith

-- and every I below 19, P below 21 and F below 28 are those of one syllable
module _ (i p f : ℕ) (hi : i < 19) (hp : p < 21) (hf : f < 28) where
  pub syllable-made : is_syllable (syllable i p f) ≡ true
  syllable-made = syllable-yes (syllable i p f) (omega arith) (omega arith)

  pub initial-determined : initial_of (syllable i p f) ≡ i
  initial-determined = omega arith

  pub peak-determined : peak_of (syllable i p f) ≡ p
  peak-determined = omega arith

  pub final-determined : final_of (syllable i p f) ≡ f
  final-determined = omega arith

-- the index determines the syllable, and every index below 11,172 is one's
pub index-determines : (s t : ℕ) → 0xAC00 ≤ s → 0xAC00 ≤ t → index_of s ≡ index_of t → s ≡ t
index-determines s t h k e = omega arith

pub index_below : (s : ℕ) → s ≤ 0xD7A3 → index_of s < 11172
index_below s h = omega arith

pub index-made : (n : ℕ) → n < 11172 → (is_syllable (0xAC00 + n) ≡ true) × (index_of (0xAC00 + n) ≡ n)
index-made n h = (syllable-yes (0xAC00 + n) (omega arith) (omega arith), omega arith)

-- ---- the one step

pub step-lv : (s : ℕ) → is_syllable s ≡ true → final_of s ≡ 0 → one_step s ≡ (0x1100 + initial_of s) ∷ (0x1161 + peak_of s) ∷ []
unfolding one_step
step-lv s h e = simp (h, eq-eqb _ _ e)

pub step-lvt : (s : ℕ) → is_syllable s ≡ true → (final_of s ≡ 0 → ⊥) → one_step s ≡ (0xAC00 + (index_of s - final_of s)) ∷ (0x11A7 + final_of s) ∷ []
unfolding one_step
step-lvt s h e = simp (h, ne_eqb _ _ e)

-- the same as the code and the Standard reckon it: C − F is the multiple of 28 below C
lv-index : (s : ℕ) → index_of s - final_of s ≡ index_of s / 28 * 28
lv-index s = omega arith

pub step-lvt-multiple : (s : ℕ) → is_syllable s ≡ true → (final_of s ≡ 0 → ⊥) → one_step s ≡ (0xAC00 + index_of s / 28 * 28) ∷ (0x11A7 + final_of s) ∷ []
step-lvt-multiple s h e = rw (← (lv-index s)) (step-lvt s h e)

pub step_other : (s : ℕ) → is_syllable s ≡ false → one_step s ≡ s ∷ []
unfolding one_step
step_other s h = simp h

-- by cases on what a code point is: an LV, an LVT, or no syllable
pub by-step : {G : Type 0} (s : ℕ) → (is_syllable s ≡ true → final_of s ≡ 0 → G) → (is_syllable s ≡ true → (final_of s ≡ 0 → ⊥) → G) → (is_syllable s ≡ false → G) → G
by-step {G} s lv lvt other = by (is_syllable s) (eqb (final_of s) 0) refl refl
  where
    by : (a b : Bool) → is_syllable s ≡ a → eqb (final_of s) 0 ≡ b → G
    by true true p q = lv p (eqb-true _ _ q)
    by true false p q = lvt p (eqb-false _ _ q)
    by false b p q = other p
