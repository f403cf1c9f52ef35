-- `answers::refusal::refusal_line` meets its contract: the number is one digit, and the digit is
-- what is stored.
use mathlib.Core.Path.{refl}
use native.Mathlib.Omega.{arith}
use Rattle.answers.specs.Answers.{refused_line}
use Rattle.answers.proofs.Answers.{number-below}
use Rattle.answers.proofs.refusal.refusal_line.Goals as goal

pub overflow_cast-line : goal.overflow_cast-line
overflow_cast-line c = record { fits = omega (arith, number-below c.args.refusal c.tell-told.ensures) }

pub overflow_add-line : goal.overflow_add-line
overflow_add-line c = record { fits = omega (arith, number-below c.args.refusal c.tell-told.ensures) }

pub returns : goal.returns
unfolding refused_line
returns c = record { value = refl; value_2 = rw c.tell-told.ensures }
