-- `ranking::compare::digits` meets its contract: zeros in front pass; two other digits begin two
-- numbers of one length.
use Rattle.ranking.proofs.Steps.{digits-first-zero, digits-second-zero, digits-begin}
use Rattle.ranking.proofs.compare.digits.Goals as goal

pub returns-then-first-eq0 : goal.returns-then-first-eq0
returns-then-first-eq0 c = digits-first-zero _ _ c.if-first-eq0.true c.zero.ensures

pub returns-then-second-eq0 : goal.returns-then-second-eq0
returns-then-second-eq0 c = digits-second-zero _ _ c.if-second-eq0.true c.zero-then-second-eq0.ensures

pub returns : goal.returns
returns c = digits-begin _ _ c.if-first-eq0.false c.if-second-eq0.false c.compared.ensures c.both.ensures
