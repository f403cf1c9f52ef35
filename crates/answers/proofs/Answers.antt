-- The readings of the code's answers are injective: an answer is known by its number and place, or
-- its value (`told-injective`, `refused_by-injective`, `answered-injective`, `checked-injective`). And
-- a refusal's number is at most 7, so that it is one digit (`told_below`, `number-below`).
use mathlib.Core.Path.{◌≡◌, refl, sym, ◌∙◌, ap}
use mathlib.Core.List.{[], ◌∷◌}
use Prim.Native.Nat.{ℕ, ◌-◌, ◌≤◌}
use native.Mathlib.Omega.{arith}
use lib.ListN.{get_or}
use Rattle.std.specs.Prelude.{Result, Ok, Err}
use Rattle.answers.specs.Answers.{told, refused_by, checked, answered}
use Rattle.answers.specs.declared.refusal.Refusal.{Refusal}
use Rattle.answers.specs.declared.refusal.Refusal.TheVariants.{OverLimit, BadCodePoint, NoRoom, NoSyllable, NoName, NoRecord, BadLayout}
use Rattle.answers.specs.declared.refusal.Told.{Told}

-- the refusal of a number and a place
abbrev untold : ℕ → ℕ → Refusal
untold number place =
    get_or (OverLimit place ∷ BadCodePoint place ∷ NoRoom place ∷ NoSyllable ∷ NoName ∷ NoRecord place ∷ BadLayout place ∷ []) (number - 1) NoName

untold-told : (r : Refusal) → untold (told r).number (told r).place ≡ r
untold-told (OverLimit p) = refl
untold-told (BadCodePoint p) = refl
untold-told (NoRoom p) = refl
untold-told NoSyllable = refl
untold-told NoName = refl
untold-told (NoRecord p) = refl
untold-told (BadLayout p) = refl

-- two refusals with one number and one place are one
pub told-injective : (r s : Refusal) → (told r).number ≡ (told s).number → (told r).place ≡ (told s).place → r ≡ s
told-injective r s n p = sym (untold-told r) ∙ rw (n, p) (untold-told s)

-- the numbers are those of the table, 1 to 7
pub told_below : (r : Refusal) → (told r).number ≤ 7
told_below (OverLimit p) = omega arith
told_below (BadCodePoint p) = omega arith
told_below (NoRoom p) = omega arith
told_below NoSyllable = omega arith
told_below NoName = omega arith
told_below (NoRecord p) = omega arith
told_below (BadLayout p) = omega arith

-- t is the refusal as the code told it
pub number-below : {t : Told} (r : Refusal) → t ≡ told r → t.number ≤ 7
number-below r e = rw e (told_below r)

module _ {Value : Type 0} where
  pub refused_by-injective : (r s : Refusal) → refused_by {Value = Value} r ≡ refused_by s → r ≡ s
  refused_by-injective r s e = told-injective r s (cc) (cc)

  pub answered-injective : (a b : Result Value Refusal) → answered a ≡ answered b → a ≡ b
  answered-injective (Ok v) (Ok w) e = cc
  answered-injective (Ok v) (Err s) e = cc
  answered-injective (Err r) (Ok w) e = cc
  answered-injective (Err r) (Err s) e = ap Err (refused_by-injective r s e)

pub checked-injective : (a b : Result (Unit {0}) Refusal) → checked a ≡ checked b → a ≡ b
checked-injective (Ok nothing) (Ok none) e = refl
checked-injective (Ok nothing) (Err s) e = cc
checked-injective (Err r) (Ok nothing) e = cc
checked-injective (Err r) (Err s) e = ap Err (told-injective r s (cc) (cc))
