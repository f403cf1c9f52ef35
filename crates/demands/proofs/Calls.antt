-- Demand 1 holds of each call that checks something: a term for each row of specs/Calls, in the
-- same order and under the same headings, by the law of its shape.
--
-- Before the rows: a check and an image left by it in the words of the other crates (`as-verdict`,
-- `changed-kept`); answers for C, where 0 says that the call is done, and no refusal has that
-- number, and a refusal counts nothing (`Numbered`, `Tells`, `for-c`).
use mathlib.Core.Path.{◌≡◌, refl, ◌∙◌, ap}
use mathlib.Core.Bool.{Bool, true, false, cond}
use mathlib.Core.Option.{Option, none, some}
use mathlib.Core.List.{List, [], ◌∷◌}
use Prim.Native.Nat.{ℕ, zero, suc}
use lib.Dec.{ltb}
use lib.ListN.{length}
use Rattle.std.specs.Prelude.{Result}
use Rattle.laws.specs.Writing.{front}
use Rattle.answers.specs.Checks.{Check, passes, refuses, in_order, over_limit, bad_code_point, no_room, takes_text, takes_bytes, takes_units}
use Rattle.answers.specs.Verdicts.{Verdict, done, refused, verdict, after, fits}
use Rattle.answers.specs.Answers.{Makes}
use Rattle.answers.specs.declared.refusal.Refusal.{Refusal}
use Rattle.letters.specs.Syllables.{is_syllable, full_parts}
use Rattle.joining.specs.Joining.{join as joins}
use Rattle.encodings.specs.Forms.{write_in}
use Rattle.encodings.specs.Reading.{ReadsIn}
use Rattle.utf8.specs.Utf8.{read_text, write_text}
use Rattle.utf8.specs.Reading.{Reads}
use Rattle.mending.specs.Mending.{mended}
use Rattle.utf16.specs.Utf16.{form16, read_units, write_units}
use Rattle.mending_units.specs.Mending.{mended_units}
use Rattle.names.specs.Names.{name_of, named}
use Rattle.names.specs.Naming.{no_syllable, no_name}
use Rattle.clusters.specs.Simple.{simple}
use Rattle.clusters.specs.Gathering.{gathered}
use Rattle.fillers.specs.Groups.{turned}
use Rattle.ranking.specs.Ranking.{order_number, takes_two, takes_two_bytes}
use Rattle.labels.specs.Records.{layout}
use Rattle.labels.specs.Images.{count_of, record_at, over_image, no_image, no_record, layouts_from, takes_record, takes_image, no_label, takes_writing, changed}
use Rattle.pulphopper.specs.Replies.{counted_answer, plain_answer, order_answer}
use Rattle.pulphopper.specs.declared.answer.Answer.{Answer}
use Rattle.demands.specs.Demand1.{Demand1}
use Rattle.demands.specs.Calls as rows
use Rattle.demands.proofs.Demand1.{kept, after_kept, demanded, answered, answered-one, filled-demanded, filled-alone}
use Rattle.encodings.specs.declared.answer.Counted.{Counted}

-- ---- in the words of the other crates

as-verdict : (check : Check) → rows.as_verdict check ≡ verdict check tt
as-verdict passes = refl
as-verdict (refuses number place) = refl

changed-kept : (check : Check) (image image' : List ℕ) → changed check image image' ≡ kept check image image'
changed-kept passes image image' = refl
changed-kept (refuses number place) image image' = refl

-- ---- answers for C

-- a refusal's number is not 0
abbrev pub Numbered : Check → Type 0
Numbered passes = Unit {0}
Numbered (refuses zero place) = ⊥
Numbered (refuses (suc n) place) = Unit {0}

pub numbered-both : (a b : Check) → Numbered a → Numbered b → Numbered (in_order (a ∷ b ∷ []))
numbered-both passes passes h k = tt
numbered-both passes (refuses zero place) h k = k
numbered-both passes (refuses (suc n) place) h k = tt
numbered-both (refuses zero place) b h k = h
numbered-both (refuses (suc n) place) b h k = tt

numbered-either : (b : Bool) (x y : Check) → Numbered x → Numbered y → Numbered (cond b x y)
numbered-either true x y h k = h
numbered-either false x y h k = k

pub limit-numbered : (limit size : ℕ) → Numbered (over_limit limit size)
unfolding over_limit
limit-numbered limit size = numbered-either (ltb limit size) (refuses 1 limit) passes tt tt

room-numbered : (room needed : ℕ) → Numbered (no_room room needed)
unfolding no_room
room-numbered room needed = numbered-either (ltb room needed) (refuses 3 needed) passes tt tt

pub fits-numbered : {A : Type 0} (before : Check) (whole out : List A) → Numbered before → Numbered (fits before whole out)
fits-numbered before whole out h = numbered-both before (no_room (length out) (length whole)) h (room-numbered (length out) (length whole))

pub syllable-numbered : (code : ℕ) → Numbered (no_syllable code)
unfolding no_syllable
syllable-numbered code = numbered-either (is_syllable code) passes (refuses 4 0) tt tt

pub name-numbered : (o : Option ℕ) → Numbered (no_name o)
name-numbered none = tt
name-numbered (some s) = tt

-- how a verdict is told to C, and what two numbers stand for its value
pub record Tells {Value : Type 0} (tells : Verdict Value → Answer) (value : Value → ℕ × ℕ) : Type 0 where
  pub is-done : (v : Value) → rows.as_c (tells (done v)) ≡ done (value v)
  pub done-zero : (v : Value) → (tells (done v)).refusal ≡ 0
  pub is-refused : (number place : ℕ) → tells (refused number place) ≡ record { refusal = number; count = 0; value = place }

pub counted-for-c : Tells counted_answer (λ c. (c.length, c.ills))
counted-for-c = record { is-done = λ v. refl; done-zero = λ v. refl; is-refused = λ number place. refl }

pub plain-for-c : Tells plain_answer (λ v. (v, 0))
plain-for-c = record { is-done = λ v. refl; done-zero = λ v. refl; is-refused = λ number place. refl }

pub order-for-c : Tells order_answer (λ o. (order_number o, 0))
order-for-c = record { is-done = λ v. refl; done-zero = λ v. refl; is-refused = λ number place. refl }

module _ {Value : Type 0} {tells : Verdict Value → Answer} {value : Value → ℕ × ℕ} (c : Tells tells value) where
  as-c : (check : Check) → Numbered check → (v : Value) → rows.as_c (tells (verdict check v)) ≡ verdict check (value v)
  as-c passes h v = c.is-done v
  as-c (refuses zero place) h v = absurd h
  as-c (refuses (suc n) place) h v = ap rows.as_c (c.is-refused (suc n) place)

  no-count : (check : Check) (v : Value) → ((tells (verdict check v)).refusal ≡ 0 → ⊥) → (tells (verdict check v)).count ≡ 0
  no-count passes v h = absurd (h (c.done-zero v))
  no-count (refuses number place) v h = ap (λ (a : Answer). a.count) (c.is-refused number place)

  for-c : (check : Check) (v : Value) {r : Answer} → r ≡ tells (verdict check v) → {demand : Type 0} → demand → rows.ForC r demand
  for-c check v e d = record { keeps = d; uncounted = rw e (no-count check v) }

  module _ {v : Value} {r : Answer} where
    answered-for-c : (a b : Check) → Numbered a → Numbered b → r ≡ tells (verdict (in_order (a ∷ b ∷ [])) v)
        → rows.ForC r (Demand1 {A = ℕ} (a ∷ b ∷ []) (value v) [] [] (rows.as_c r) [])
    answered-for-c a b h k e =
        for-c (in_order (a ∷ b ∷ [])) v e
        (answered (a ∷ b ∷ []) refl (ap rows.as_c e ∙ as-c (in_order (a ∷ b ∷ [])) (numbered-both a b h k) v))

    filled-for-c : (before : Check) (whole out : List ℕ) {out' : List ℕ} → Numbered before → r ≡ tells (verdict (fits before whole out) v)
        → out' ≡ after (fits before whole out) whole out
        → rows.ForC r (Demand1 (before ∷ no_room (length out) (length whole) ∷ []) (value v) out (front whole out) (rows.as_c r) out')
    filled-for-c before whole out h e q =
        for-c (fits before whole out) v e
        (demanded (before ∷ no_room (length out) (length whole) ∷ []) (ap rows.as_c e ∙ as-c (fits before whole out) (fits-numbered before whole out h) v)
        (q ∙ after_kept (fits before whole out) whole out))

-- ---- answers

pub check-text : rows.CheckText
unfolding takes_text
check-text text r e =
    answered (over_limit 16384 (length text) ∷ bad_code_point text ∷ []) refl (ap rows.as_verdict e ∙ as-verdict (takes_text text))

pub check-bytes : rows.CheckBytes
unfolding takes_units
check-bytes bytes r e = answered-one (ap rows.as_verdict e ∙ as-verdict (takes_bytes bytes))

pub check-units : rows.CheckUnits
unfolding takes_units
check-units units r e = answered-one (ap rows.as_verdict e ∙ as-verdict (takes_units units))

pub check-room : rows.CheckRoom
check-room room needed r e = answered-one (ap rows.as_verdict e ∙ as-verdict (no_room room needed))

-- ---- letters

pub sorter : rows.Sorter
sorter code r e = answered-one e

pub one-step : rows.OneStep
one-step code r e = answered-one e

-- ---- what a call from text to text promises, one from bytes, and one from units

of-text : (make : List ℕ → List ℕ) (text out out' : List ℕ) (r : Result ℕ Refusal) → Makes make text out r out' → rows.OfText make text out r out'
unfolding takes_text
of-text make text out out' r h = filled-demanded (over_limit 16384 (length text) ∷ bad_code_point text ∷ []) refl h.fills

of-bytes : (make : List ℕ → List ℕ) (text out out' : List ℕ) (r : Result Counted Refusal) → Reads make text out r out' → rows.OfBytes make text out r out'
unfolding takes_units
of-bytes make text out out' r h = filled-alone h.fills

of-units : (make : List ℕ → List ℕ) (text out out' : List ℕ) (r : Result Counted Refusal) → ReadsIn form16 make text out r out' → rows.OfUnits make text out r out'
unfolding takes_units
of-units make text out out' r h = filled-alone h.fills

pub full-parts : rows.FullParts
full-parts = of-text full_parts

-- ---- joining

pub join : rows.Join
join = of-text joins

-- ---- encodings

pub read-in : rows.ReadIn
unfolding takes_units
read-in f text out out' r h = filled-alone h.fills

pub write-in : rows.WriteIn
write-in f = of-text (write_in f)

-- ---- utf8

pub read-text : rows.ReadText
read-text = of-bytes read_text

pub write-text : rows.WriteText
write-text = of-text write_text

-- ---- mending

pub mend : rows.Mend
mend = of-bytes mended

-- ---- utf16

pub read-units : rows.ReadUnits
read-units = of-units read_units

pub write-units : rows.WriteUnits
write-units = of-text write_units

-- ---- mending_units

pub mend-units : rows.MendUnits
mend-units = of-units mended_units

-- ---- names

pub name : rows.Name
name code out out' r h = filled-alone h.fills

pub read_name : rows.ReadName
unfolding takes_units
read_name name r h = answered (over_limit 16384 (length name) ∷ no_name (named name) ∷ []) refl h.answers

-- ---- clusters, fillers

pub simple-form : rows.SimpleForm
simple-form = of-text simple

pub gathered-form : rows.GatheredForm
gathered-form = of-text gathered

pub turn : rows.Turn
turn = of-text turned

-- ---- listing

pub list-lines : rows.ListLines
unfolding takes_units
list-lines text out out' r h = filled-alone h.fills

-- ---- ranking

pub rank : rows.Rank
unfolding takes_two
rank first second r h =
    answered (over_limit 16384 (length first) ∷ over_limit 16384 (length second) ∷ bad_code_point first ∷ bad_code_point second ∷ []) refl h.answers

pub rank-bytes : rows.RankBytes
unfolding takes_two_bytes takes_units
rank-bytes first second r h = answered (over_limit 16384 (length first) ∷ over_limit 16384 (length second) ∷ []) refl h.answers

-- ---- the label file

-- the checks of a whole image
abbrev of_image : List ℕ → List Check
of_image image = over_limit 65472 (length image) ∷ no_image image ∷ layouts_from image 0 (count_of image) ∷ []

image-checks : (image : List ℕ) → takes_image image ≡ in_order (of_image image)
unfolding takes_image over_image
image-checks image = refl

pub read-record : rows.ReadRecord
unfolding takes_record over_image
read-record image number out out' r h =
    filled-demanded (over_limit 65472 (length image) ∷ no_record image number ∷ layout (record_at image number) ∷ []) refl h.fills

pub read-image : rows.ReadImage
read-image image r h = (answered (of_image image) (image-checks image) h.answers, h.names)

pub write-record : rows.WriteRecord
unfolding takes_writing over_image takes_units
write-record image number object berth form label image' r h =
    demanded (over_limit 65472 (length image) ∷ over_limit 16384 (length label) ∷ no_record image number ∷ no_label form label ∷ [])
    (ap rows.as_verdict h.answers ∙ as-verdict (takes_writing image number form label))
    (h.leaves ∙ changed-kept (takes_writing image number form label) image _)

-- ---- sorting

pub order-records : rows.OrderRecords
order-records image out out' r h = (filled-demanded (of_image image) (image-checks image) h.fills, h.names)

pub print : rows.Print
print image out out' r h = (filled-demanded (of_image image) (image-checks image) h.fills, h.names)

-- ---- the calls for C

pub mend-for-c : rows.MendForC
unfolding takes_units
mend-for-c text out out' r h =
    filled-for-c counted-for-c (over_limit 16384 (length text)) (mended text) out (limit-numbered 16384 (length text)) h.answers h.leaves

pub mend-units-for-c : rows.MendUnitsForC
unfolding takes_units
mend-units-for-c text out out' r h =
    filled-for-c counted-for-c (over_limit 16384 (length text)) (mended_units text) out (limit-numbered 16384 (length text)) h.answers h.leaves

pub name-for-c : rows.NameForC
name-for-c code out out' r h = filled-for-c plain-for-c (no_syllable code) (name_of code) out (syllable-numbered code) h.answers h.leaves

pub read-name-for-c : rows.ReadNameForC
unfolding takes_units
read-name-for-c name r h =
    answered-for-c plain-for-c (over_limit 16384 (length name)) (no_name (named name)) (limit-numbered 16384 (length name)) (name-numbered (named name))
    h.answers

pub rank-for-c : rows.RankForC
unfolding takes_two_bytes takes_units
rank-for-c first second r h =
    answered-for-c order-for-c (over_limit 16384 (length first)) (over_limit 16384 (length second)) (limit-numbered 16384 (length first))
    (limit-numbered 16384 (length second)) h.answers
