-- What the joiner's step answers, read as the machine's: the code's enum as a list, and the
-- contract of a step.
use Rattle.std.specs.Prelude.{◌≡◌, List, [], ◌∷◌, ℕ}
use Rattle.joining.specs.Joining.{join_step, join_emit}
use Rattle.joining.specs.declared.joiner.Open.{Open}
use Rattle.joining.specs.declared.joiner.Emitted.{Emitted}
use Rattle.joining.specs.declared.joiner.Emitted.TheVariants.{Empty, One, Two}
use Rattle.joining.specs.declared.joiner.Outcome.{Outcome}

-- what a step writes, as a list
abbrev pub emitted : Emitted → List ℕ
emitted Empty = []
emitted (One a) = a ∷ []
emitted (Two a b) = a ∷ b ∷ []

-- from what is open and the next code point: what is open then, and what is written
pub record Stepped (o : Open) (c : ℕ) (r : Outcome) : Type 0 where
  pub opens : r.joiner.state ≡ join_step o c
  pub writes : emitted r.out ≡ join_emit o c
