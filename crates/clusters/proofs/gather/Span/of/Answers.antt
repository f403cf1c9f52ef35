-- `clusters::gather::Span::of` meets its contract: the span of the letter's place, or any where it
-- is in no cluster.
use mathlib.Core.Path.{refl}
use native.Mathlib.Omega.{arith}
use Rattle.clusters.proofs.Clustering.{covers-when}
use Rattle.clusters.proofs.gather.Span.of.Goals as goal
use Rattle.clusters.proofs.gather.Span.of.Goals.{in_default-via-then-letter-lt4352, in_default-via-else-letter-lt4352+else-letter-lt4447+then-letter-lt4449, in_default-via-else-letter-lt4352+else-letter-lt4447+else-letter-lt4449+else-letter-lt4520+else-letter-lt4608}

pub returns-in-4352-to-4446 : goal.returns-in-4352-to-4446
returns-in-4352-to-4446 c = covers-when _ _ (λ l h. refl) (λ l h. absurd (omega arith)) (λ l h. absurd (omega arith))

pub returns-in-4449-to-4519 : goal.returns-in-4449-to-4519
returns-in-4449-to-4519 c = covers-when _ _ (λ l h. absurd (omega arith)) (λ l h. refl) (λ l h. absurd (omega arith))

pub returns-in-4520-to-4607 : goal.returns-in-4520-to-4607
returns-in-4520-to-4607 c = covers-when _ _ (λ l h. absurd (omega arith)) (λ l h. absurd (omega arith)) (λ l h. refl)

pub returns-in_default : goal.returns-in_default
returns-in_default c = elim c.in_default.branch [
  | in_default-via-then-letter-lt4352 w ↦ covers-when _ _ (λ l h. absurd (omega arith)) (λ l h. absurd (omega arith)) (λ l h. absurd (omega arith))
  | in_default-via-else-letter-lt4352+else-letter-lt4447+then-letter-lt4449 w ↦
      covers-when _ _ (λ l h. absurd (omega arith)) (λ l h. absurd (omega arith)) (λ l h. absurd (omega arith))
  | in_default-via-else-letter-lt4352+else-letter-lt4447+else-letter-lt4449+else-letter-lt4520+else-letter-lt4608 w ↦
      covers-when _ _ (λ l h. absurd (omega arith)) (λ l h. absurd (omega arith)) (λ l h. absurd (omega arith))
]
