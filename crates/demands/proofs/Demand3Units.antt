-- Demand 3 for units: by the laws that give it for bytes (proofs/Demand3), at UTF-16.
use mathlib.Core.Path.{sym, ◌∙◌, ap}
use mathlib.Core.List.{List, ◌++◌}
use Prim.Native.Nat.{ℕ}
use native.Mathlib.Omega.{arith}
use Rattle.encodings.specs.Pieces.{units_of}
use Rattle.encodings.proofs.Texts.{reading-in-unique}
use Rattle.utf16.specs.Utf16.{form16}
use Rattle.utf16.proofs.Writing.{mark-units}
use Rattle.utf16.proofs.Forms.{encodes16}
use Rattle.mending.proofs.Damage.{ending_at, beginning-at, call-around, demand-3}
use Rattle.mending_units.specs.Mending.{mended_units}
use Rattle.mending_units.proofs.Bound.{mended-most}
use Rattle.demands.specs.Demand3Units.{IsDoneUnits, OutsideTheMiddleUnits, EndingsPlaceUnits, BeginningsPlaceUnits, AroundUnpaired}
use Rattle.demands.proofs.Demand3.{done-in}

pub is-done-units : IsDoneUnits
is-done-units units out out' r short room h = done-in form16 units out short (omega (arith, mended-most units)) h

pub outside-the-middle-units : OutsideTheMiddleUnits
outside-the-middle-units beginning middle other ending v w m n =
    rw (m.is, n.is) (demand-3 encodes16 beginning middle other ending m.call n.call)

pub endings-place-units : EndingsPlaceUnits
endings-place-units = ending_at form16

pub beginnings-place-units : BeginningsPlaceUnits
beginnings-place-units = beginning-at form16

pub around-unpaired : AroundUnpaired
around-unpaired text v before subpart after r m =
    m.is ∙ call-around text before subpart after (sym (reading-in-unique encodes16 r)) m.call
    ∙ ap (λ (x : List ℕ). mended_units (units_of before) ++ (x ++ mended_units (units_of after))) mark-units
