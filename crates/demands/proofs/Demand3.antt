-- Demand 3: damage in the middle of a text stays there.
use mathlib.Core.Path.{◌≡◌, sym, ◌∙◌, ap}
use mathlib.Core.List.{List, ◌++◌}
use Prim.Native.Nat.{ℕ, ◌≤◌}
use native.Mathlib.Omega.{arith}
use lib.ListN.{length}
use Rattle.std.specs.Prelude.{Result, Ok}
use Rattle.answers.specs.declared.refusal.Refusal.{Refusal}
use Rattle.answers.proofs.Checks.{units-taken}
use Rattle.encodings.specs.Pieces.{units_of}
use Rattle.encodings.specs.Forms.{Form}
use Rattle.encodings.specs.Reading.{counted_in, ReadsIn}
use Rattle.encodings.specs.declared.answer.Counted.{Counted}
use Rattle.encodings.proofs.Texts.{reading-in-unique}
use Rattle.utf8.specs.Utf8.{form8}
use Rattle.utf8.proofs.Round.{encodes8}
use Rattle.utf8.proofs.Writing.{mark-bytes}
use Rattle.mending.specs.Mending.{mended_in, mended}
use Rattle.mending.proofs.Round.{call-done}
use Rattle.mending.proofs.Bound.{mended-most}
use Rattle.mending.proofs.Damage.{ending_at, beginning-at, call-around, demand-3}
use Rattle.demands.specs.Demand3.{IsDone, OutsideTheMiddle, EndingsPlace, BeginningsPlace, AroundIllFormed}

-- a call within the limit and with room for what it makes is done, in any encoding form
pub done-in : (f : Form) (text out : List ℕ) {out' : List ℕ} {r : Result Counted Refusal} → length text ≤ 16384 → length (mended_in f text) ≤ length out
    → ReadsIn f (mended_in f) text out r out' → (c : Counted) × (r ≡ Ok c)
done-in f text out short room h = (counted_in f (mended_in f) text, (call-done f text out (units-taken text short) room h).0)

pub is-done : IsDone
is-done bytes out out' r short room h = done-in form8 bytes out short (omega (arith, mended-most bytes)) h

pub outside-the-middle : OutsideTheMiddle
outside-the-middle beginning middle other ending v w m n =
    rw (m.is, n.is) (demand-3 encodes8 beginning middle other ending m.call n.call)

pub endings-place : EndingsPlace
endings-place = ending_at form8

pub beginnings-place : BeginningsPlace
beginnings-place = beginning-at form8

pub around-ill-formed : AroundIllFormed
around-ill-formed text v before subpart after r m =
    m.is ∙ call-around text before subpart after (sym (reading-in-unique encodes8 r)) m.call
    ∙ ap (λ (x : List ℕ). mended (units_of before) ++ (x ++ mended (units_of after))) mark-bytes
