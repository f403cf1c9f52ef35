-- Demand 3: "Take two byte texts within the limit, each given room, with the same beginning and the
-- same ending and anything in between, of any lengths. In the ending, go to the first byte that is
-- no UTF-8 continuation byte. Read from there to the first character that is neither a modern vowel
-- letter nor a modern final letter; ill-formed bytes count as such a character. If there is one,
-- both joined texts end with exactly what joining the ending from that place gives. In the
-- beginning, take the last well-formed character lying whole in it that is of neither kind. If
-- there is one, both joined texts start with what joining all that stands before it gives. No
-- syllable is made from letters with ill-formed bytes between them: around each ill-formed subpart
-- the joined text is what joining all before it gives, then one FFFD, then what joining all behind
-- it gives." Statements over calls of mending that are done, whatever room they were given: a call
-- within the limit and with three bytes for each is (`IsDone`), and so is one with just the room
-- that it needs (demand 1's row for it, specs/Calls). Nothing is proved here.
use Rattle.std.specs.Prelude.{◌≡◌, List, [], ◌∷◌, ◌++◌, ℕ, ◌*◌, ◌≤◌, length, Result, Ok}
use Rattle.answers.specs.declared.refusal.Refusal.{Refusal}
use Rattle.encodings.specs.Pieces.{Piece, ill, units_of}
use Rattle.encodings.specs.Readings.{Reading}
use Rattle.encodings.specs.Places.{EndingPlace, BeginningFound}
use Rattle.encodings.specs.declared.answer.Counted.{Counted}
use Rattle.utf8.specs.Table37.{kind_of}
use Rattle.utf8.specs.Utf8.{utf8}
use Rattle.utf8.specs.Reading.{Reads}
use Rattle.mending.specs.Mending.{mended, joined_bytes, SameAround}
use Rattle.demands.specs.Accident.{Mended}

-- "within the limit, each given room": such a call is done. Three bytes for each byte are always
-- room enough
abbrev pub IsDone : Type 0
IsDone =
    (bytes out out' : List ℕ) (r : Result Counted Refusal) → length bytes ≤ 16384 → 3 * length bytes ≤ length out → Reads mended bytes out r out'
    → (c : Counted) × (r ≡ Ok c)

-- "the same beginning and the same ending and anything in between": outside the damaged middle both
-- joined texts are the same, and what they are there (`SameAround` of crate mending: a start and a
-- finish that both have, made of the beginning up to its place and of the ending from its place)
abbrev pub OutsideTheMiddle : Type 0
OutsideTheMiddle =
    (beginning middle other ending v w : List ℕ)
    → Mended (beginning ++ middle ++ ending) v → Mended (beginning ++ other ++ ending) w → SameAround beginning ending v w

-- the places are those that the demand names: in every ending, and in every beginning
abbrev pub EndingsPlace : Type 0
EndingsPlace = (ending : List ℕ) → EndingPlace utf8 joined_bytes ending

abbrev pub BeginningsPlace : Type 0
BeginningsPlace = (beginning : List ℕ) → BeginningFound utf8 joined_bytes beginning

-- "No syllable is made from letters with ill-formed bytes between them": around each ill-formed
-- subpart of the text's reading, the three bytes of FFFD
abbrev pub AroundIllFormed : Type 0
AroundIllFormed =
    (text v : List ℕ) (before : List (Piece ℕ)) (subpart : List ℕ) (after : List (Piece ℕ)) → Reading kind_of text (before ++ ill subpart ∷ after)
    → Mended text v → v ≡ mended (units_of before) ++ ((0xEF ∷ 0xBF ∷ 0xBD ∷ []) ++ mended (units_of after))
