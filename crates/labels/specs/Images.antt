-- A file image: 0 to 682 records of 96 bytes, one after the other (document 01, 'The label file'
-- and 'Refusal numbers'). This file says what the calls on an image check, in the paper's order,
-- what they answer, and what they leave.
use Rattle.std.specs.Prelude.{◌≡◌, cond, ◌&&◌, List, [], ◌∷◌, ◌++◌, ℕ, zero, suc, ◌+◌, ◌*◌, ◌/◌, ◌%◌, ltb, leb, eqb, length, take, drop, Result, Ok, Err}
use Rattle.std.proofs.Math.Option.{Option, none, some}
use Rattle.answers.specs.Checks.{Check, passes, refuses, in_order, over_limit, takes_bytes}
use Rattle.answers.specs.Verdicts.{Verdict, done, refused, verdict, Fills}
use Rattle.answers.specs.Answers.{refused_by, checked, answered}
use Rattle.answers.specs.declared.refusal.Refusal.{Refusal}
use Rattle.utf8.specs.Utf8.{ill_text}
use Rattle.mending.specs.Mending.{mended}
use Rattle.labels.specs.Records.{record_of, berth_of, size_of, label_of, entry_of, layout}
use Rattle.labels.specs.declared.record.Entry.{Entry}
use Rattle.labels.specs.declared.image.ImageRefusal.{ImageRefusal}
use Rattle.labels.specs.declared.image.ImageRefusal.TheVariants.{Refused, BadRecord}
use Rattle.labels.specs.declared.write.Form.{Form}
use Rattle.labels.specs.declared.write.Form.TheVariants.{AsGiven, Joined}

-- ---- the records of an image

abbrev pub count_of : List ℕ → ℕ
count_of image = length image / 96

unfoldable pub record_at : List ℕ → ℕ → List ℕ
record_at image k = take 96 (drop (96 * k) image)

-- the image with another record at k
unfoldable pub replaced : List ℕ → ℕ → List ℕ → List ℕ
replaced image k bytes = take (96 * k) image ++ (bytes ++ drop (96 * k + 96) image)

-- a record's label, of any image: none if the image does not have that record, or if its length is
-- over 88
unfoldable pub label_at : List ℕ → ℕ → List ℕ
label_at image k = cond (ltb k (count_of image) && leb (size_of (record_at image k)) 88) (label_of (record_at image k)) []

-- its berth: 0 if the image does not have that record
unfoldable pub berth_at : List ℕ → ℕ → ℕ
berth_at image k = cond (ltb k (count_of image)) (berth_of (record_at image k)) 0

-- ---- what is checked

-- 1: over 65,472 bytes
unfoldable pub over_image : List ℕ → Check
over_image image = over_limit 65472 (length image)

-- 6: not a multiple of 96; or a record number that is not in it
unfoldable pub no_image : List ℕ → Check
no_image image = cond (eqb (length image % 96) 0) passes (refuses 6 (length image))

unfoldable pub no_record : List ℕ → ℕ → Check
no_record image k = cond (eqb (length image % 96) 0 && ltb k (count_of image)) passes (refuses 6 (length image))

-- 7: the lowest record from k on, of n, that breaks its layout
unfoldable pub layouts_from : List ℕ → ℕ → ℕ → Check
layouts_from image k zero = passes
layouts_from image k (suc n) = in_order (layout (record_at image k) ∷ layouts_from image (suc k) n ∷ [])

-- and its number
abbrev pub or_else : Check → ℕ → Option ℕ → Option ℕ
or_else passes k next = next
or_else (refuses number place) k next = some k

unfoldable pub bad_from : List ℕ → ℕ → ℕ → Option ℕ
bad_from image k zero = none
bad_from image k (suc n) = or_else (layout (record_at image k)) k (bad_from image (suc k) n)

-- ---- reading one record: 1, 6, 7, then 3

unfoldable pub takes_record : List ℕ → ℕ → Check
takes_record image k = in_order (over_image image ∷ no_record image k ∷ layout (record_at image k) ∷ [])

-- THE CONTRACT of reading one record: the label fills the buffer, and the answer is object, berth
-- and the label's length
pub record Finds (image : List ℕ) (k : ℕ) (out : List ℕ) (r : Result Entry Refusal) (out' : List ℕ) : Type 0 where
  pub fills : Fills (takes_record image k) (label_of (record_at image k)) (entry_of (record_at image k)) out (answered r) out'

-- ---- reading a whole image: 1, 6, 7

unfoldable pub takes_image : List ℕ → Check
takes_image image = in_order (over_image image ∷ no_image image ∷ layouts_from image 0 (count_of image) ∷ [])

-- the record that 7 is given for: none if 1 or 6 is given
abbrev pub only_if : {A : Type 0} → Check → Option A → Option A
only_if passes found = found
only_if (refuses number place) found = none

unfoldable pub bad_record : List ℕ → Option ℕ
bad_record image = only_if (in_order (over_image image ∷ no_image image ∷ [])) (bad_from image 0 (count_of image))

-- the answer read as a verdict, and the record that it names
abbrev pub judged_as : Result ℕ ImageRefusal → Verdict ℕ
judged_as (Ok count) = done count
judged_as (Err (Refused r)) = refused_by r
judged_as (Err (BadRecord number byte)) = refused 7 byte

abbrev pub named_by : Result ℕ ImageRefusal → Option ℕ
named_by (Ok count) = none
named_by (Err (Refused r)) = none
named_by (Err (BadRecord number byte)) = some number

-- THE CONTRACT of reading a whole image: how many records it has; of refusal 7 also which record is
-- the lowest bad one
pub record Judges (image : List ℕ) (r : Result ℕ ImageRefusal) : Type 0 where
  pub answers : judged_as r ≡ verdict (takes_image image) (count_of image)
  pub names : named_by r ≡ bad_record image

-- ---- writing a record: 1 for the image, 1 for the label, 6, 7

-- the bytes to be stored
abbrev pub stored : Form → List ℕ → List ℕ
stored AsGiven label = label
stored Joined label = mended label

-- 7: the label is ill-formed, or what is to be stored is over 88 bytes; the place is 8
unfoldable pub no_label : Form → List ℕ → Check
no_label form label = cond (eqb (ill_text label) 0 && leb (length (stored form label)) 88) passes (refuses 7 8)

unfoldable pub takes_writing : List ℕ → ℕ → Form → List ℕ → Check
takes_writing image k form label = in_order (over_image image ∷ takes_bytes label ∷ no_record image k ∷ no_label form label ∷ [])

-- the image afterwards: a refusal changes nothing
abbrev pub changed : Check → List ℕ → List ℕ → List ℕ
changed passes image image' = image'
changed (refuses number place) image image' = image

-- THE CONTRACT of writing a record: the record's 96 bytes change, and no others
pub record Writes (image : List ℕ) (k object berth : ℕ) (form : Form) (label : List ℕ) (r : Result (Unit {0}) Refusal) (image' : List ℕ) : Type 0 where
  pub answers : checked r ≡ takes_writing image k form label
  pub leaves : image' ≡ changed (takes_writing image k form label) image (replaced image k (record_of object berth (stored form label)))
