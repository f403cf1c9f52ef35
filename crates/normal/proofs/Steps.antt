-- The one step (crate letters, specs/Syllables) read backwards: what is known of a code point and
-- of its parts once it has two.
--
-- In order: lists of one (`one_same`); by cases on a code point with two parts (`by_two`), which is
-- a syllable (`two-syllable`); and where the parts of a syllable lie (`Part`, `step-parts`).
use mathlib.Core.Path.{◌≡◌, sym, ◌∙◌}
use mathlib.Core.Bool.{true, false≢true}
use mathlib.Core.List.{[], ◌∷◌}
use Prim.Native.Nat.{ℕ, ◌+◌, ◌-◌, ◌≤◌}
use native.Mathlib.Omega.{arith}
use Rattle.laws.specs.Lists.{All, also}
use Rattle.laws.proofs.Lists.{one-not-two}
use Rattle.letters.specs.Syllables.{is_syllable, index_of, initial_of, peak_of, final_of, one_step}
use Rattle.letters.proofs.Steps.{syllable-yes, syllable-least, syllable-most, step-lv, step-lvt, step_other, by-step}

-- ---- lists of one

pub one_same : {a b : ℕ} → a ∷ [] ≡ b ∷ [] → a ≡ b
one_same e = cc

-- ---- a code point with two parts: an LV or an LVT

module _ (s a b : ℕ) (e : one_step s ≡ a ∷ b ∷ []) where
  pub by_two : {G : Type 0} → (0xAC00 ≤ s → s ≤ 0xD7A3 → final_of s ≡ 0 → a ≡ 0x1100 + initial_of s → b ≡ 0x1161 + peak_of s → G)
      → (0xAC00 ≤ s → s ≤ 0xD7A3 → (final_of s ≡ 0 → ⊥) → a ≡ 0xAC00 + (index_of s - final_of s) → b ≡ 0x11A7 + final_of s → G) → G
  by_two lv lvt =
      by-step s (λ h f. lv (syllable-least s h) (syllable-most s h) f (cc (step-lv s h f)) (cc (step-lv s h f)))
      (λ h f. lvt (syllable-least s h) (syllable-most s h) f (cc (step-lvt s h f)) (cc (step-lvt s h f)))
      (λ h. absurd (one-not-two (sym (step_other s h) ∙ e)))

  pub two-syllable : is_syllable s ≡ true
  two-syllable = by_two (λ l m f p q. syllable-yes s l m) (λ l m f p q. syllable-yes s l m)

-- ---- the parts of a syllable are letters and syllables

pub data Part (c : ℕ) : Type 0 where
  letter : 0x1100 ≤ c → c ≤ 0x11FF → Part c
  whole : 0xAC00 ≤ c → c ≤ 0xD7A3 → Part c

pub step-parts : (s : ℕ) → is_syllable s ≡ true → All Part (one_step s)
step-parts s h =
    let l = syllable-least s h in
    let m = syllable-most s h in
    let initial : Part (0x1100 + initial_of s) = letter (omega arith) (omega arith) in
    let peak : Part (0x1161 + peak_of s) = letter (omega arith) (omega arith) in
    let lv : Part (0xAC00 + (index_of s - final_of s)) = whole (omega arith) (omega arith) in
    let final : Part (0x11A7 + final_of s) = letter (omega arith) (omega arith) in
    by-step s (λ k f. rw (step-lv s h f) (also initial (also peak All.none))) (λ k f. rw (step-lvt s h f) (also lv (also final All.none)))
    (λ k. absurd (false≢true (sym k ∙ h)))
