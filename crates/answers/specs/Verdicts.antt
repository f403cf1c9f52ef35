-- What a call answers and what it leaves in the buffer lent to it (document 01, 'Refusal numbers'
-- and 'What the contracts have to say'), over any elements and any values. `Fills` is the contract
-- of every call that fills a lent buffer, at that call's own `before`, `whole` and `value`; the
-- calls for C say the same by `fits` and `after`.
use Rattle.std.specs.Prelude.{◌≡◌, List, [], ◌∷◌, ℕ, length}
use Rattle.laws.specs.Writing.{front}
use Rattle.answers.specs.Checks.{Check, passes, refuses, in_order, no_room}

-- the call is done and answers a value, or it is refused with a number and a place
pub data Verdict (Value : Type 0) : Type 0 where
  done : Value → Verdict Value
  refused : ℕ → ℕ → Verdict Value

-- the verdict of a check: the value if it passes
abbrev pub verdict : {Value : Type 0} → Check → Value → Verdict Value
verdict passes value = done value
verdict (refuses number place) value = refused number place

-- the buffer afterwards: the answer fills the front and the rest is unchanged; a refusal writes
-- nothing
abbrev pub after : {A : Type 0} → Check → List A → List A → List A
after passes whole out = front whole out
after (refuses number place) whole out = out

-- what precedes 3, then 3
abbrev pub fits : {A : Type 0} → Check → List A → List A → Check
fits before whole out = in_order (before ∷ no_room (length out) (length whole) ∷ [])

-- THE SCHEME: `before` is the check that precedes 3, `whole` what the call writes, `value` what it
-- answers; `out` is the lent buffer, `answer` the answer and `out'` the buffer afterwards
pub record Fills {A Value : Type 0} (before : Check) (whole : List A) (value : Value) (out : List A) (answer : Verdict Value) (out' : List A) : Type 0 where
  pub answers : answer ≡ verdict (fits before whole out) value
  pub leaves : out' ≡ after (fits before whole out) whole out
