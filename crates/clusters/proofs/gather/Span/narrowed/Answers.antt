-- `clusters::gather::Span::narrowed` meets its contract: no cluster goes on with a letter outside the
-- span, or the span is as it was.
use native.Mathlib.Omega.{arith}
use Rattle.clusters.proofs.Clustering.{covers_more, covers-none}
use Rattle.clusters.proofs.gather.Span.narrowed.Goals as goal

pub returns-then-letter-self : goal.returns-then-letter-self
returns-then-letter-self c = λ front covers. covers-none front _ covers _ (λ p. omega (arith, p.0, c.if-letter-self.true))

pub returns-then-self-letter : goal.returns-then-self-letter
returns-then-self-letter c = λ front covers. covers-none front _ covers _ (λ p. omega (arith, p.1, c.if-self-letter.true))

pub returns : goal.returns
returns c = λ front covers. covers_more front _ covers
