-- Demand 3 for 16-bit units. Document 02, #101: "Demand 3 reads for units too, with 'unit that is
-- no low surrogate' where it says 'byte that is no continuation byte', and an unpaired surrogate
-- where it speaks of ill-formed bytes or an ill-formed subpart. The argument about beginnings and
-- endings is made once and used for both." So the statements have the shape of specs/Demand3, which
-- has the customer's words for each; the places are those of the same definitions, at UTF-16, and
-- the proofs are those of the same laws (crate encodings, proofs/Damage; crate mending,
-- proofs/Damage). Statements over calls of mending that are done, whatever room they were given: a
-- call within the limit and with as many units as come in is (`IsDoneUnits`). Nothing is proved
-- here.
use Rattle.std.specs.Prelude.{◌≡◌, List, [], ◌∷◌, ◌++◌, ℕ, ◌≤◌, length, Result, Ok}
use Rattle.answers.specs.declared.refusal.Refusal.{Refusal}
use Rattle.encodings.specs.Pieces.{Piece, ill, units_of}
use Rattle.encodings.specs.Readings.{Reading}
use Rattle.encodings.specs.Places.{EndingPlace, BeginningFound}
use Rattle.encodings.specs.Rows.{kind_by}
use Rattle.encodings.specs.Reading.{ReadsIn}
use Rattle.encodings.specs.declared.answer.Counted.{Counted}
use Rattle.utf16.specs.Utf16.{table_d91, utf16, form16}
use Rattle.mending.specs.Mending.{SameAroundIn}
use Rattle.mending_units.specs.Mending.{mended_units, joined_units}
use Rattle.demands.specs.Clipboard.{MendedUnits}

-- within the limit, each given room: such a call is done. As many units as come in are always room
-- enough
abbrev pub IsDoneUnits : Type 0
IsDoneUnits =
    (units out out' : List ℕ) (r : Result Counted Refusal) → length units ≤ 16384 → length units ≤ length out → ReadsIn form16 mended_units units out r out'
    → (c : Counted) × (r ≡ Ok c)

-- outside the damaged middle both joined texts are the same, and what they are there
abbrev pub OutsideTheMiddleUnits : Type 0
OutsideTheMiddleUnits =
    (beginning middle other ending v w : List ℕ)
    → MendedUnits (beginning ++ middle ++ ending) v → MendedUnits (beginning ++ other ++ ending) w → SameAroundIn form16 beginning ending v w

-- the places are those that the demand names, from the first "unit that is no low surrogate" on: in
-- every ending, and in every beginning
abbrev pub EndingsPlaceUnits : Type 0
EndingsPlaceUnits = (ending : List ℕ) → EndingPlace utf16 joined_units ending

abbrev pub BeginningsPlaceUnits : Type 0
BeginningsPlaceUnits = (beginning : List ℕ) → BeginningFound utf16 joined_units beginning

-- no syllable is made from letters with an unpaired surrogate between them: around each one of the
-- text's reading, one FFFD
abbrev pub AroundUnpaired : Type 0
AroundUnpaired =
    (text v : List ℕ) (before : List (Piece ℕ)) (subpart : List ℕ) (after : List (Piece ℕ))
    → Reading (kind_by table_d91) text (before ++ ill subpart ∷ after)
    → MendedUnits text v → v ≡ mended_units (units_of before) ++ ((0xFFFD ∷ []) ++ mended_units (units_of after))
