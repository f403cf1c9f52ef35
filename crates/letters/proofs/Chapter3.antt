-- The one step is the Standard's canonical decomposition mapping of Hangul syllables, and full
-- parts are its full canonical decomposition: for every number, with no bound.
use mathlib.Core.Path.{◌≡◌, refl, sym, ◌∙◌}
use mathlib.Core.Bool.{Bool, true, false, ◌&&◌}
use mathlib.Core.List.{List}
use Prim.Native.Nat.{ℕ}
use native.Mathlib.Omega.{arith}
use lib.Dec.{leb, ltb}
use borrow.Author.Tests.{leb-true, leb-false, ltb-true, ltb-false, eq-eqb, ne_eqb}
use Rattle.laws.specs.Lists.{each}
use Rattle.laws.proofs.Lists.{each_same}
use Rattle.letters.specs.Syllables.{is_syllable, one_step, parts_of, full_parts}
use Rattle.letters.specs.Chapter3.{s_base, s_index, s_count, precomposed, mapping, decomposition}
use Rattle.letters.proofs.Steps.{syllable-yes, syllable-below, syllable-above, by-step, step-lv, step-lvt-multiple, step_other}
use Rattle.letters.proofs.FullParts.{parts-lv, parts-lvt, parts-other}

-- a precomposed syllable is one of AC00–D7A3
pub precomposed-is : (s : ℕ) → precomposed s ≡ is_syllable s
precomposed-is s = by (leb s_base s) (ltb (s_index s) s_count) refl refl
  where
    by : (a b : Bool) → leb s_base s ≡ a → ltb (s_index s) s_count ≡ b → (a && b) ≡ is_syllable s
    by true true p q = sym (syllable-yes s (leb-true s_base s p) (omega (arith, ltb-true (s_index s) s_count q)))
    by true false p q = sym (syllable-above s (omega (arith, leb-true s_base s p, ltb-false (s_index s) s_count q)))
    by false b p q = sym (syllable-below s (leb-false s_base s p))

-- THE ONE STEP IS THE MAPPING
pub step-mapping : (s : ℕ) → one_step s ≡ mapping s
unfolding mapping
step-mapping s =
    by-step s (λ h e. step-lv s h e ∙ simp (precomposed-is s ∙ h, eq-eqb _ _ e))
    (λ h e. step-lvt-multiple s h e ∙ simp (precomposed-is s ∙ h, ne_eqb _ _ e))
    (λ h. step_other s h ∙ simp (precomposed-is s ∙ h))

-- FULL PARTS ARE THE FULL DECOMPOSITION: the Standard's two or three letters
pub parts-decomposition : (s : ℕ) → parts_of s ≡ decomposition s
unfolding decomposition
parts-decomposition s =
    by-step s (λ h e. parts-lv 0 s h e ∙ simp (precomposed-is s ∙ h, eq-eqb _ _ e))
    (λ h e. parts-lvt 0 s h e ∙ simp (precomposed-is s ∙ h, ne_eqb _ _ e))
    (λ h. parts-other 2 s h ∙ simp (precomposed-is s ∙ h))

pub full-decomposition : (text : List ℕ) → full_parts text ≡ each decomposition text
full-decomposition text = each_same parts_of decomposition parts-decomposition text
