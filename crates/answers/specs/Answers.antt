-- The code's refusals and answers read as the paper's numbers and values: document 01, the table of
-- 'Refusal numbers', case by case.
use Rattle.std.specs.Prelude.{List, [], ◌∷◌, ◌++◌, ℕ, ◌+◌, length, Result, Ok, Err}
use Rattle.laws.specs.Strings.{ascii}
use Rattle.answers.specs.Checks.{Check, passes, refuses, takes_text}
use Rattle.answers.specs.Verdicts.{Verdict, done, refused, Fills}
use Rattle.answers.specs.declared.refusal.Refusal.{Refusal}
use Rattle.answers.specs.declared.refusal.Refusal.TheVariants.{OverLimit, BadCodePoint, NoRoom, NoSyllable, NoName, NoRecord, BadLayout}
use Rattle.answers.specs.declared.refusal.Told.{Told}

-- the number and the place of each refusal: the only match on them
abbrev pub told : Refusal → Told
told (OverLimit limit) = record { number = 1; place = limit }
told (BadCodePoint index) = record { number = 2; place = index }
told (NoRoom needed) = record { number = 3; place = needed }
told NoSyllable = record { number = 4; place = 0 }
told NoName = record { number = 5; place = 0 }
told (NoRecord size) = record { number = 6; place = size }
told (BadLayout byte) = record { number = 7; place = byte }

-- the line that a program prints if it is refused (document 01, 'Programs')
unfoldable pub refused_line : Refusal → List ℕ
refused_line r = ascii "refused " ++ ((0x30 + (told r).number) ∷ 0x0A ∷ [])

-- a refusal as a verdict of any call
abbrev pub refused_by : {Value : Type 0} → Refusal → Verdict Value
refused_by r = refused (told r).number (told r).place

-- what the checks say
abbrev pub checked : Result (Unit {0}) Refusal → Check
checked (Ok nothing) = passes
checked (Err r) = refuses (told r).number (told r).place

-- the answer of a call that may be refused: what it answers, or its refusal
abbrev pub answered : {Value : Type 0} → Result Value Refusal → Verdict Value
answered (Ok value) = done value
answered (Err r) = refused_by r

-- THE CONTRACT of a call that makes of a text of code points another, `make text`: 1 and 2, then 3;
-- the value is its length
pub record Makes (make : List ℕ → List ℕ) (text out : List ℕ) (r : Result ℕ Refusal) (out' : List ℕ) : Type 0 where
  pub fills : Fills (takes_text text) (make text) (length (make text)) out (answered r) out'
