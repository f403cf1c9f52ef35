-- What naming and reading a name check and answer (document 01, 'Names', 'Refusal numbers').
use Rattle.std.specs.Prelude.{◌≡◌, cond, List, [], ◌∷◌, ℕ, length, Result}
use Rattle.std.proofs.Math.Option.{Option, none, some}
use Rattle.answers.specs.Checks.{Check, passes, refuses, in_order, takes_bytes}
use Rattle.answers.specs.Verdicts.{verdict, Fills}
use Rattle.answers.specs.Answers.{answered}
use Rattle.answers.specs.declared.refusal.Refusal.{Refusal}
use Rattle.letters.specs.Syllables.{is_syllable}
use Rattle.names.specs.Names.{name_of, named}

-- ---- naming

-- 4: no syllable; the place is 0
unfoldable pub no_syllable : ℕ → Check
no_syllable code = cond (is_syllable code) passes (refuses 4 0)

-- THE CONTRACT of naming: 4, then 3, never 2
pub record Names (code : ℕ) (out : List ℕ) (r : Result ℕ Refusal) (out' : List ℕ) : Type 0 where
  pub fills : Fills (no_syllable code) (name_of code) (length (name_of code)) out (answered r) out'

-- ---- reading a name

-- 5: no syllable has the name; the place is 0
abbrev pub no_name : Option ℕ → Check
no_name none = refuses 5 0
no_name (some s) = passes

abbrev pub syllable_or : Option ℕ → ℕ
syllable_or none = 0
syllable_or (some s) = s

-- THE CONTRACT of reading a name: 1, then 5; the value is the syllable
pub record ReadsName (name : List ℕ) (r : Result ℕ Refusal) : Type 0 where
  pub answers : answered r ≡ verdict (in_order (takes_bytes name ∷ no_name (named name) ∷ [])) (syllable_or (named name))
