-- Demand 1, at each of the 34 calls that check something: a row for each, with the name of the
-- call, what it is given, what its contract says of its result, and `Demand1` with its checks in
-- document 01's order. The contract of a row is that of the code, word for word (tests/premises
-- compares them). A function that checks nothing has no row: its contract, an equation, says all of
-- it.
use Rattle.std.specs.Prelude.{◌≡◌, List, [], ◌∷◌, ℕ, zero, suc, length, Result}
use Rattle.laws.specs.Writing.{front}
use Rattle.answers.specs.Checks.{Check, passes, refuses, over_limit, bad_code_point, no_room, takes_text, takes_bytes, takes_units}
use Rattle.answers.specs.Verdicts.{Verdict, done, refused, verdict}
use Rattle.answers.specs.Answers.{checked, Makes, answered}
use Rattle.answers.specs.declared.refusal.Refusal.{Refusal}
use Rattle.letters.specs.Sorts.{sort_of}
use Rattle.letters.specs.Syllables.{one_step, full_parts}
use Rattle.letters.specs.Answers.{stepped}
use Rattle.joining.specs.Joining.{join}
use Rattle.encodings.specs.Forms.{Form as TextForm, read_in, write_in}
use Rattle.encodings.specs.Reading.{counted_in, ReadsIn}
use Rattle.utf8.specs.Utf8.{read_text, ill_text, write_text}
use Rattle.utf8.specs.Reading.{counted_of, Reads}
use Rattle.mending.specs.Mending.{mended}
use Rattle.utf16.specs.Utf16.{form16, read_units, unpaired, write_units}
use Rattle.mending_units.specs.Mending.{mended_units}
use Rattle.names.specs.Names.{name_of, named}
use Rattle.names.specs.Naming.{no_syllable, no_name, syllable_or, Names, ReadsName}
use Rattle.clusters.specs.Simple.{simple}
use Rattle.clusters.specs.Gathering.{gathered}
use Rattle.fillers.specs.Groups.{turned}
use Rattle.ranking.specs.Ranking.{order_number, rank, rank_bytes, Ranks, RanksBytes}
use Rattle.labels.specs.Records.{layout, label_of, entry_of, record_of}
use Rattle.labels.specs.Images.{count_of, record_at, replaced, no_image, no_record, layouts_from, Finds, bad_record, judged_as, named_by, Judges, stored, no_label, Writes}
use Rattle.labels.specs.declared.image.ImageRefusal.{ImageRefusal}
use Rattle.labels.specs.declared.write.Form.{Form}
use Rattle.sorting.specs.Sorting.{order_of, Orders}
use Rattle.sorting.specs.Printing.{printed, Prints}
use Rattle.listing.specs.Listing.{listed as lines, Lists}
use Rattle.pulphopper.specs.Replies.{Mends, MendsUnits, NamesForC, ReadsNameForC, RanksForC}
use Rattle.pulphopper.specs.declared.answer.Answer.{Answer}
use Rattle.demands.specs.Demand1.{Demand1}
use Rattle.encodings.specs.declared.answer.Counted.{Counted}
use Rattle.letters.specs.declared.sort.Sort.{Sort}
use Rattle.letters.specs.declared.step.Parts.{Parts}
use Rattle.std.specs.declared.cmp.Ordering.{Ordering}
use Rattle.labels.specs.declared.record.Entry.{Entry}

-- ---- the code's answers read as verdicts, where the crates below have no reading of their own

-- of a check
abbrev pub as_verdict : Check → Verdict (Unit {0})
as_verdict passes = done tt
as_verdict (refuses number place) = refused number place

-- of an answer for C: refusal 0 is done, with the value and the count
abbrev pub told-c : ℕ → Answer → Verdict (ℕ × ℕ)
told-c zero a = done (a.value, a.count)
told-c (suc n) a = refused a.refusal a.value

abbrev pub as_c : Answer → Verdict (ℕ × ℕ)
as_c a = told-c a.refusal a

-- what is shown of a call for C: the demand, of its answer read so, and that a refusal's count is 0
pub record ForC (r : Answer) (demand : Type 0) : Type 0 where
  pub keeps : demand
  pub uncounted : (r.refusal ≡ 0 → ⊥) → r.count ≡ 0

-- ---- answers

-- `answers::check_text`: 1, 2
abbrev pub CheckText : Type 0
CheckText =
    (text : List ℕ) (r : Result (Unit {0}) Refusal) → checked r ≡ takes_text text
    → Demand1 {A = ℕ} (over_limit 16384 (length text) ∷ bad_code_point text ∷ []) tt [] [] (as_verdict (checked r)) []

-- `answers::check_bytes`: 1
abbrev pub CheckBytes : Type 0
CheckBytes =
    (bytes : List ℕ) (r : Result (Unit {0}) Refusal) → checked r ≡ takes_bytes bytes
    → Demand1 {A = ℕ} (over_limit 16384 (length bytes) ∷ []) tt [] [] (as_verdict (checked r)) []

-- `answers::check_units`: 1
abbrev pub CheckUnits : Type 0
CheckUnits =
    (units : List ℕ) (r : Result (Unit {0}) Refusal) → checked r ≡ takes_units units
    → Demand1 {A = ℕ} (over_limit 16384 (length units) ∷ []) tt [] [] (as_verdict (checked r)) []

-- `answers::check_room`: 3
abbrev pub CheckRoom : Type 0
CheckRoom =
    (room needed : ℕ) (r : Result (Unit {0}) Refusal) → checked r ≡ no_room room needed
    → Demand1 {A = ℕ} (no_room room needed ∷ []) tt [] [] (as_verdict (checked r)) []

-- ---- letters

-- `letters::sorter`: 2
abbrev pub Sorter : Type 0
Sorter =
    (code : ℕ) (r : Result Sort Refusal) → answered r ≡ verdict (bad_code_point (code ∷ [])) (sort_of code)
    → Demand1 {A = ℕ} (bad_code_point (code ∷ []) ∷ []) (sort_of code) [] [] (answered r) []

-- `letters::one_step`: 2
abbrev pub OneStep : Type 0
OneStep =
    (code : ℕ) (r : Result Parts Refusal) → stepped r ≡ verdict (bad_code_point (code ∷ [])) (one_step code)
    → Demand1 {A = ℕ} (bad_code_point (code ∷ []) ∷ []) (one_step code) [] [] (stepped r) []

-- ---- what a call from text to text promises:
-- 1 and 2, then 3, and the front of the buffer is filled

abbrev pub OfText : (List ℕ → List ℕ) → List ℕ → List ℕ → Result ℕ Refusal → List ℕ → Type 0
OfText make text out r out' =
    Demand1 (over_limit 16384 (length text) ∷ bad_code_point text ∷ no_room (length out) (length (make text)) ∷ []) (length (make text))
    out (front (make text) out) (answered r) out'

-- and one from bytes: 1, then 3; the answer is the length and the number of ill-formed subparts
abbrev pub OfBytes : (List ℕ → List ℕ) → List ℕ → List ℕ → Result Counted Refusal → List ℕ → Type 0
OfBytes make text out r out' =
    Demand1 (over_limit 16384 (length text) ∷ no_room (length out) (length (make text)) ∷ []) (counted_of make text)
    out (front (make text) out) (answered r) out'

-- and one from 16-bit units: 1, then 3; the answer is the length and the number of unpaired
-- surrogates
abbrev pub OfUnits : (List ℕ → List ℕ) → List ℕ → List ℕ → Result Counted Refusal → List ℕ → Type 0
OfUnits make text out r out' =
    Demand1 (over_limit 16384 (length text) ∷ no_room (length out) (length (make text)) ∷ []) (counted_in form16 make text)
    out (front (make text) out) (answered r) out'

-- `letters::full_parts`: 1, 2, 3
abbrev pub FullParts : Type 0
FullParts = (text out out' : List ℕ) (r : Result ℕ Refusal) → Makes full_parts text out r out' → OfText full_parts text out r out'

-- ---- joining

-- `joining::join`: 1, 2, 3
abbrev pub Join : Type 0
Join = (text out out' : List ℕ) (r : Result ℕ Refusal) → Makes join text out r out' → OfText join text out r out'

-- ---- encodings: in any encoding form f; a text of units, and a buffer for them, by their numbers

-- `encodings::read_text`: 1, 3
abbrev pub ReadIn : Type 0
ReadIn =
    (f : TextForm) (text out out' : List ℕ) (r : Result Counted Refusal) → ReadsIn f (read_in f) text out r out'
    → Demand1 (over_limit 16384 (length text) ∷ no_room (length out) (length (read_in f text)) ∷ []) (counted_in f (read_in f) text)
    out (front (read_in f text) out) (answered r) out'

-- `encodings::write_text`: 1, 2, 3
abbrev pub WriteIn : Type 0
WriteIn = (f : TextForm) (text out out' : List ℕ) (r : Result ℕ Refusal) → Makes (write_in f) text out r out' → OfText (write_in f) text out r out'

-- ---- utf8

-- `utf8::read_text`: 1, 3
abbrev pub ReadText : Type 0
ReadText = (text out out' : List ℕ) (r : Result Counted Refusal) → Reads read_text text out r out' → OfBytes read_text text out r out'

-- `utf8::write_text`: 1, 2, 3
abbrev pub WriteText : Type 0
WriteText = (text out out' : List ℕ) (r : Result ℕ Refusal) → Makes write_text text out r out' → OfText write_text text out r out'

-- ---- mending

-- `mending::mend`: 1, 3
abbrev pub Mend : Type 0
Mend = (text out out' : List ℕ) (r : Result Counted Refusal) → Reads mended text out r out' → OfBytes mended text out r out'

-- ---- utf16

-- `utf16::read_units`: 1, 3
abbrev pub ReadUnits : Type 0
ReadUnits = (text out out' : List ℕ) (r : Result Counted Refusal) → ReadsIn form16 read_units text out r out' → OfUnits read_units text out r out'

-- `utf16::write_units`: 1, 2, 3
abbrev pub WriteUnits : Type 0
WriteUnits = (text out out' : List ℕ) (r : Result ℕ Refusal) → Makes write_units text out r out' → OfText write_units text out r out'

-- ---- mending_units

-- `mending_units::mend`: 1, 3
abbrev pub MendUnits : Type 0
MendUnits = (text out out' : List ℕ) (r : Result Counted Refusal) → ReadsIn form16 mended_units text out r out' → OfUnits mended_units text out r out'

-- ---- names

-- `names::name`: 4, 3
abbrev pub Name : Type 0
Name =
    (code : ℕ) (out out' : List ℕ) (r : Result ℕ Refusal) → Names code out r out'
    → Demand1 (no_syllable code ∷ no_room (length out) (length (name_of code)) ∷ []) (length (name_of code)) out (front (name_of code) out) (answered r) out'

-- `names::read_name`: 1, 5
abbrev pub ReadName : Type 0
ReadName =
    (name : List ℕ) (r : Result ℕ Refusal) → ReadsName name r
    → Demand1 {A = ℕ} (over_limit 16384 (length name) ∷ no_name (named name) ∷ []) (syllable_or (named name)) [] [] (answered r) []

-- ---- clusters, fillers

-- `clusters::simple_form`: 1, 2, 3
abbrev pub SimpleForm : Type 0
SimpleForm = (text out out' : List ℕ) (r : Result ℕ Refusal) → Makes simple text out r out' → OfText simple text out r out'

-- `clusters::gathered_form`: 1, 2, 3
abbrev pub GatheredForm : Type 0
GatheredForm = (text out out' : List ℕ) (r : Result ℕ Refusal) → Makes gathered text out r out' → OfText gathered text out r out'

-- `fillers::turn`: 1, 2, 3
abbrev pub Turn : Type 0
Turn = (text out out' : List ℕ) (r : Result ℕ Refusal) → Makes turned text out r out' → OfText turned text out r out'

-- ---- listing

-- `listing::list`: 1, 3
abbrev pub ListLines : Type 0
ListLines =
    (text out out' : List ℕ) (r : Result ℕ Refusal) → Lists text out r out'
    → Demand1 (over_limit 16384 (length text) ∷ no_room (length out) (length (lines text)) ∷ []) (length (lines text)) out (front (lines text) out) (answered r) out'

-- ---- ranking

-- `ranking::rank`: 1 for the first text, 1 for the second, then 2 likewise
abbrev pub Rank : Type 0
Rank =
    (first second : List ℕ) (r : Result Ordering Refusal) → Ranks first second r
    → Demand1 {A = ℕ} (over_limit 16384 (length first) ∷ over_limit 16384 (length second) ∷ bad_code_point first ∷ bad_code_point second ∷ [])
    (rank first second) [] [] (answered r) []

-- `ranking::rank_bytes`: 1 for the first text, 1 for the second
abbrev pub RankBytes : Type 0
RankBytes =
    (first second : List ℕ) (r : Result Ordering Refusal) → RanksBytes first second r
    → Demand1 {A = ℕ} (over_limit 16384 (length first) ∷ over_limit 16384 (length second) ∷ []) (rank_bytes first second) [] [] (answered r) []

-- ---- the label file

-- `labels::read_record`: 1, 6, 7, 3
abbrev pub ReadRecord : Type 0
ReadRecord =
    (image : List ℕ) (number : ℕ) (out out' : List ℕ) (r : Result Entry Refusal) → Finds image number out r out'
    → Demand1 (over_limit 65472 (length image) ∷ no_record image number ∷ layout (record_at image number)
    ∷ no_room (length out) (length (label_of (record_at image number))) ∷ [])
    (entry_of (record_at image number)) out (front (label_of (record_at image number)) out) (answered r) out'

-- `labels::read_image`: 1, 6, 7, and of 7 the lowest bad record
abbrev pub ReadImage : Type 0
ReadImage =
    (image : List ℕ) (r : Result ℕ ImageRefusal) → Judges image r
    → Demand1 {A = ℕ} (over_limit 65472 (length image) ∷ no_image image ∷ layouts_from image 0 (count_of image) ∷ []) (count_of image) [] [] (judged_as r) []
    × (named_by r ≡ bad_record image)

-- `labels::write_record`: 1 for the image, 1 for the label, 6, 7; the image is what is lent, and
-- only the record's 96 bytes change
abbrev pub WriteRecord : Type 0
WriteRecord =
    (image : List ℕ) (number object berth : ℕ) (form : Form) (label : List ℕ) (image' : List ℕ) (r : Result (Unit {0}) Refusal)
    → Writes image number object berth form label r image'
    → Demand1 (over_limit 65472 (length image) ∷ over_limit 16384 (length label) ∷ no_record image number ∷ no_label form label ∷ []) tt
    image (replaced image number (record_of object berth (stored form label))) (as_verdict (checked r)) image'

-- ---- sorting

-- what a call over a whole image promises: 1, 6, 7, then 3, and of 7 the lowest bad record
abbrev pub OfImage : (List ℕ → List ℕ) → (List ℕ → ℕ) → List ℕ → List ℕ → Result ℕ ImageRefusal → List ℕ → Type 0
OfImage make value image out r out' =
    Demand1 (over_limit 65472 (length image) ∷ no_image image ∷ layouts_from image 0 (count_of image) ∷ no_room (length out) (length (make image)) ∷ [])
    (value image) out (front (make image) out) (judged_as r) out'
    × (named_by r ≡ bad_record image)

-- `sorting::order`: 1, 6, 7, 3
abbrev pub OrderRecords : Type 0
OrderRecords = (image out out' : List ℕ) (r : Result ℕ ImageRefusal) → Orders image out r out' → OfImage order_of count_of image out r out'

-- `sorting::print`: 1, 6, 7, 3
abbrev pub Print : Type 0
Print = (image out out' : List ℕ) (r : Result ℕ ImageRefusal) → Prints image out r out' → OfImage printed (λ image. length (printed image)) image out r out'

-- ---- the calls for C

-- `pulphopper::pulphopper_mend`: 1, 3
abbrev pub MendForC : Type 0
MendForC =
    (text out out' : List ℕ) (r : Answer) → Mends text out r out'
    → ForC r (Demand1 (over_limit 16384 (length text) ∷ no_room (length out) (length (mended text)) ∷ []) (length (mended text), ill_text text)
    out (front (mended text) out) (as_c r) out')

-- `pulphopper::pulphopper_mend_units`: 1, 3
abbrev pub MendUnitsForC : Type 0
MendUnitsForC =
    (text out out' : List ℕ) (r : Answer) → MendsUnits text out r out'
    → ForC r (Demand1 (over_limit 16384 (length text) ∷ no_room (length out) (length (mended_units text)) ∷ []) (length (mended_units text), unpaired text)
    out (front (mended_units text) out) (as_c r) out')

-- `pulphopper::pulphopper_name`: 4, 3
abbrev pub NameForC : Type 0
NameForC =
    (code : ℕ) (out out' : List ℕ) (r : Answer) → NamesForC code out r out'
    → ForC r (Demand1 (no_syllable code ∷ no_room (length out) (length (name_of code)) ∷ []) (length (name_of code), 0)
    out (front (name_of code) out) (as_c r) out')

-- `pulphopper::pulphopper_read_name`: 1, 5
abbrev pub ReadNameForC : Type 0
ReadNameForC =
    (name : List ℕ) (r : Answer) → ReadsNameForC name r
    → ForC r (Demand1 {A = ℕ} (over_limit 16384 (length name) ∷ no_name (named name) ∷ []) (syllable_or (named name), 0) [] [] (as_c r) [])

-- `pulphopper::pulphopper_rank`: 1 for the first label, 1 for the second
abbrev pub RankForC : Type 0
RankForC =
    (first second : List ℕ) (r : Answer) → RanksForC first second r
    → ForC r (Demand1 {A = ℕ} (over_limit 16384 (length first) ∷ over_limit 16384 (length second) ∷ []) (order_number (rank_bytes first second), 0)
    [] [] (as_c r) [])
