-- The database `jamo` is what D68, D114 and D117 ask of one: nothing that it has decomposed can be
-- decomposed further, and its composites are the primary composites, all of them and no others.
--
-- In order: whatever is canonically equivalent to two characters is their composite (`jamo-exact`);
-- the composites are primary and equivalent, and none with a mapping of two is left out
-- (`jamo-sound`); they are the mappings undone (`jamo-inverse`).
use mathlib.Core.Path.{◌≡◌, refl, sym, ◌∙◌}
use mathlib.Core.Bool.{Bool, true, false, cond}
use mathlib.Core.Option.{some}
use mathlib.Core.List.{List, [], ◌∷◌}
use Prim.Native.Nat.{ℕ}
use lib.Dec.{eqb}
use Rattle.laws.specs.Lists.{each, All, also}
use Rattle.laws.proofs.Lists.{one-not-two, each-one, each_same, each-alone}
use Rattle.letters.specs.Syllables.{one_step, parts_of}
use Rattle.letters.specs.Chapter3.{mapping}
use Rattle.letters.proofs.FullParts.{Closed, parts-closed, full-closed, full-of-step}
use Rattle.letters.proofs.Chapter3.{step-mapping}
use Rattle.joining.specs.Roles.{pair}
use Rattle.normal.specs.Forms.{applied, composed, Decomposable, Equivalent, Sound, Exact}
use Rattle.normal.specs.Jamo.{composite, jamo}
use Rattle.normal.proofs.Steps.{one_same}
use Rattle.joining.proofs.Joins.{same_parts}
use Rattle.normal.proofs.Jamo.{composite-pair, composite-step, step-composite}
use Rattle.normal.proofs.Conjoining.{applied-parts, nfd-parts, combined-pair, composed-join}

-- ---- whatever is canonically equivalent to two characters is their composite

-- canonically equivalent texts compose to the same text
equivalent-composed : (x y : List ℕ) → Equivalent jamo x y → composed jamo x ≡ composed jamo y
equivalent-composed x y e = composed-join x ∙ same_parts x y (sym (nfd-parts x) ∙ e ∙ nfd-parts y) ∙ sym (composed-join y)

pub jamo-exact : Exact jamo
jamo-exact l c p h e = by (eqb (pair l c) 0) refl
  where
    one : p ∷ [] ≡ cond (eqb (pair l c) 0) (l ∷ c ∷ []) (pair l c ∷ [])
    one = equivalent-composed (p ∷ []) (l ∷ c ∷ []) e ∙ combined-pair [] l c

    by : (b : Bool) → eqb (pair l c) 0 ≡ b → composite l c ≡ some p
    by true q = absurd (one-not-two (rw q at one))
    by false q = composite-pair l c ∙ rw (q, one_same (rw q at one))

-- ---- the composites are primary composites, and equivalent

step-equivalent : (l c p : ℕ) → one_step p ≡ l ∷ c ∷ [] → Equivalent jamo (p ∷ []) (l ∷ c ∷ [])
step-equivalent l c p e = nfd-parts (p ∷ []) ∙ sym (full-of-step (p ∷ [])) ∙ rw (each-one, e) (sym (nfd-parts (l ∷ c ∷ [])))

step-decomposable : (l c p : ℕ) → one_step p ≡ l ∷ c ∷ [] → Decomposable jamo p
step-decomposable l c p e q = one-not-two (sym (closed (rw (sym (nfd-parts (p ∷ [])) ∙ q) at (full-closed (p ∷ [])))) ∙ e)
  where
    closed : All Closed (p ∷ []) → one_step p ≡ p ∷ []
    closed (also k r) = k

-- D68: the mappings have been applied to the end
jamo-full : (c : ℕ) → each mapping (applied jamo 2 c) ≡ applied jamo 2 c
jamo-full c = rw (applied-parts 2 c) (sym (each_same one_step mapping step-mapping (parts_of c)) ∙ each-alone one_step (parts-closed c))

pub jamo-sound : Sound jamo
jamo-sound = record {
  full = jamo-full;
  primary = λ l c p e. record { decomposable = step-decomposable l c p (composite-step l c p e); admitted = refl };
  equivalent = λ l c p e. step-equivalent l c p (composite-step l c p e);
  listed = λ l c p h e. step-composite l c p (step-mapping p ∙ e);
}

-- ---- the composites are the mappings undone

pub jamo-inverse : (l c p : ℕ) → composite l c ≡ some p → mapping p ≡ l ∷ c ∷ []
jamo-inverse l c p e = sym (step-mapping p) ∙ composite-step l c p e
