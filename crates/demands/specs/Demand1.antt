-- Demand 1, as one statement over any call: "Each call accepts every input there can be, checks it
-- itself and ends. A refusal gives its number and place from the list and changes nothing that was
-- lent." That every input is accepted and the call ends is what the check proves of a function with
-- no `requires`; the rest is `Demand1`. (That a pointer of C's is good for its length, and that
-- what is written overlaps nothing, no callee can check: docs/C.md.)
use Rattle.std.specs.Prelude.{◌≡◌, ◌↔◌, List, [], ◌∷◌, ℕ}
use Rattle.answers.specs.Checks.{Check, passes, refuses}
use Rattle.answers.specs.Verdicts.{Verdict, done, refused}

-- of the checks in their order, the first that refuses does so with this number and this place
abbrev pub First : List Check → ℕ → ℕ → Type 0
First [] number place = ⊥
First (passes ∷ checks) number place = First checks number place
First (refuses n p ∷ checks) number place = (n ≡ number) × (p ≡ place)

-- and none of them refuses
abbrev pub Pass : List Check → Type 0
Pass [] = Unit {0}
Pass (passes ∷ checks) = Pass checks
Pass (refuses n p ∷ checks) = ⊥

-- DEMAND 1 OF ONE CALL: `checks` are document 01's, in its order, at this call's input; `value` is
-- what the call answers if none refuses, and `filled` what the lent buffer then holds. `lent` is
-- the buffer before the call, `lent'` the buffer after it, and `answer` the answer. A call that is
-- lent nothing to write has [] for each buffer.
pub record Demand1 {Value A : Type 0} (checks : List Check) (value : Value) (lent filled : List A) (answer : Verdict Value) (lent' : List A) : Type 0 where
  -- "a refusal gives its number and place from the list": just when the list says so, and that of
  -- the first check that refuses
  pub gives : (number place : ℕ) → (answer ≡ refused number place) ↔ First checks number place
  -- "and changes nothing that was lent"
  pub keeps : (number place : ℕ) → answer ≡ refused number place → lent' ≡ lent
  -- if no check refuses, the call is done: what it answers, and what the buffer holds
  pub answers : Pass checks → answer ≡ done value
  pub fills : Pass checks → lent' ≡ filled
