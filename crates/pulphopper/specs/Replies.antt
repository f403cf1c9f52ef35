-- What C is told (include/pulphopper.h): a verdict in the three numbers of an answer, and the
-- contract of each call.
use Rattle.std.specs.Prelude.{◌≡◌, List, [], ◌∷◌, ℕ, length}
use Rattle.answers.specs.Checks.{in_order, takes_bytes, takes_units}
use Rattle.answers.specs.Verdicts.{Verdict, done, refused, verdict, after, fits}
use Rattle.encodings.specs.Forms.{Form}
use Rattle.encodings.specs.Reading.{counted_in}
use Rattle.encodings.specs.declared.answer.Counted.{Counted}
use Rattle.utf8.specs.Utf8.{form8}
use Rattle.mending.specs.Mending.{mended_in}
use Rattle.utf16.specs.Utf16.{form16}
use Rattle.names.specs.Names.{name_of, named}
use Rattle.names.specs.Naming.{no_syllable, no_name, syllable_or}
use Rattle.ranking.specs.Ranking.{order_number, rank_bytes, takes_two_bytes}
use Rattle.std.specs.declared.cmp.Ordering.{Ordering}
use Rattle.pulphopper.specs.declared.answer.Answer.{Answer}

-- a verdict of a call that reads bytes or units: the value is a length, and the count that of the
-- ill-formed subparts
abbrev pub counted_answer : Verdict Counted → Answer
counted_answer (done c) = record { refusal = 0; count = c.ills; value = c.length }
counted_answer (refused number place) = record { refusal = number; count = 0; value = place }

-- a verdict of a call that answers one value: the count is 0
abbrev pub plain_answer : Verdict ℕ → Answer
plain_answer (done value) = record { refusal = 0; count = 0; value = value }
plain_answer (refused number place) = record { refusal = number; count = 0; value = place }

-- a verdict of a call that ranks: the value is the number of the order
abbrev pub order_answer : Verdict Ordering → Answer
order_answer (done order) = record { refusal = 0; count = 0; value = order_number order }
order_answer (refused number place) = record { refusal = number; count = 0; value = place }

-- THE CONTRACT of mending for C, in an encoding form: 1, then 3. `Mends` is that of bytes, and
-- `MendsUnits` that of 16-bit units
pub record MendsIn (f : Form) (text out : List ℕ) (r : Answer) (out' : List ℕ) : Type 0 where
  pub answers : r ≡ counted_answer (verdict (fits (takes_units text) (mended_in f text) out) (counted_in f (mended_in f) text))
  pub leaves : out' ≡ after (fits (takes_units text) (mended_in f text) out) (mended_in f text) out

abbrev pub Mends : List ℕ → List ℕ → Answer → List ℕ → Type 0
Mends = MendsIn form8

abbrev pub MendsUnits : List ℕ → List ℕ → Answer → List ℕ → Type 0
MendsUnits = MendsIn form16

-- THE CONTRACT of naming for C: 4, then 3
pub record NamesForC (code : ℕ) (out : List ℕ) (r : Answer) (out' : List ℕ) : Type 0 where
  pub answers : r ≡ plain_answer (verdict (fits (no_syllable code) (name_of code) out) (length (name_of code)))
  pub leaves : out' ≡ after (fits (no_syllable code) (name_of code) out) (name_of code) out

-- THE CONTRACT of reading a name for C: 1, then 5
pub record ReadsNameForC (name : List ℕ) (r : Answer) : Type 0 where
  pub answers : r ≡ plain_answer (verdict (in_order (takes_bytes name ∷ no_name (named name) ∷ [])) (syllable_or (named name)))

-- THE CONTRACT of ranking for C: 1 for the first label, then for the second
pub record RanksForC (first second : List ℕ) (r : Answer) : Type 0 where
  pub answers : r ≡ order_answer (verdict (takes_two_bytes first second) (rank_bytes first second))
