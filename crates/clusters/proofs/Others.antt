-- Other scripts pass through (document 01, its first paragraph): a text with no syllable and no
-- initial, peak or final is its own simple form and its own gathered form. In order: such a code
-- point (`Foreign`), which is alone (`letters-foreign`) and joins with nothing before it; SIMPLE
-- FORM (`simple-others`); GATHERED FORM (`clustered-others`, `gathered-others`).
use mathlib.Core.Path.{◌≡◌, refl, ◌∙◌, ap}
use mathlib.Core.Bool.{false, true≢false}
use mathlib.Core.List.{List, [], ◌∷◌}
use Prim.Native.Nat.{ℕ}
use native.Mathlib.Omega.{arith}
use lib.Dec.{T}
use lib.ListN.{length}
use Rattle.laws.specs.Lists.{each, All, none, also}
use Rattle.laws.proofs.Lists.{each-alone, all_map}
use Rattle.letters.specs.Sorts.{sort_of}
use Rattle.letters.specs.Syllables.{is_syllable}
use Rattle.letters.specs.declared.sort.Sort.{Sort}
use Rattle.letters.specs.declared.sort.Sort.TheVariants.{ModernInitial, OldInitial, InitialFiller, PeakFiller, ModernPeak, OldPeak, ModernFinal, OldFinal, Lv, Lvt, Other}
use Rattle.letters.proofs.FullParts.{full-none}
use Rattle.joining.specs.Roles.{role_in, role_of, Hard}
use Rattle.joining.proofs.Roles.{firm, hard-as}
use Rattle.joining.proofs.Joins.{join-none}
use Rattle.clusters.specs.Table.{letters_of, nowhere, place_as, place_of}
use Rattle.clusters.specs.Simple.{letter_at, simple}
use Rattle.clusters.specs.Gathering.{clustered, gathered}
use Rattle.clusters.proofs.Rule.{letters-one-place, letters-placed, letters-least, one-letter}
use Rattle.clusters.proofs.GatheredForm.{cut-one}

-- no syllable, and no initial, peak or final; a filler is one too
abbrev pub Foreign : ℕ → Type 0
Foreign c = (is_syllable c ≡ false) × (place_of c ≡ nowhere)

-- what has no place is in no cluster, and has its own row
letters-foreign : (c : ℕ) → place_of c ≡ nowhere → letters_of c ≡ c ∷ []
letters-foreign c n = by (letters_of c) refl
  where
    first : {a b : ℕ} {x : List ℕ} → All (λ l. place_of l ≡ place_of c) (a ∷ b ∷ x) → All (λ l. place_of l ≡ nowhere → ⊥) (a ∷ b ∷ x) → ⊥
    first (also p q) (also r s) = r (p ∙ n)

    by : (x : List ℕ) → letters_of c ≡ x → letters_of c ≡ c ∷ []
    by [] e = absurd (omega (arith, letters-least c, ap length e))
    by (a ∷ []) e = e ∙ ap (λ l. l ∷ []) (one-letter c e)
    by (a ∷ b ∷ x) e = absurd (first (rw e at (letters-one-place c)) (rw e at (letters-placed c (omega (arith, ap length e)))))

-- it joins with nothing before it: a modern peak, and a modern final, has a place
place-firm : (s : Sort) → place_as s ≡ nowhere → T (firm (role_in s))
place-firm (ModernInitial m) e = tt
place-firm (OldInitial m) e = tt
place-firm InitialFiller e = tt
place-firm PeakFiller e = tt
place-firm (ModernPeak m) e = true≢false (ap letter_at e)
place-firm (OldPeak m) e = tt
place-firm (ModernFinal m) e = true≢false (ap letter_at e)
place-firm (OldFinal m) e = tt
place-firm Lv e = tt
place-firm Lvt e = tt
place-firm Other e = tt

hard-foreign : (c : ℕ) → place_of c ≡ nowhere → Hard c
unfolding role_of
hard-foreign c n = hard-as c refl (place-firm (sort_of c) n)

-- ---- SIMPLE FORM
pub simple-others : {x : List ℕ} → All Foreign x → simple x ≡ x
unfolding simple
simple-others p = ap (each letters_of) (full-none (all_map (λ c h. h.0) p)) ∙ each-alone letters_of (all_map (λ c h. letters-foreign c h.1) p)

-- ---- GATHERED FORM
pub clustered-others : {x : List ℕ} → All Foreign x → clustered x ≡ x
unfolding clustered
clustered-others none = refl
clustered-others (also {a = a} h none) = refl
clustered-others (also {a = a} h (also {a = b} {x = x} k p)) = cut-one b k.1 [] a x ∙ ap (λ l. a ∷ l) (clustered-others (also k p))

pub gathered-others : {x : List ℕ} → All Foreign x → gathered x ≡ x
unfolding gathered
gathered-others p = rw (simple-others p, clustered-others p) (join-none (all_map (λ c h. hard-foreign c h.1) p))
