-- `names::read::ends` meets its contract: of two strings of one length, the one begins with the
-- other exactly when they are the same.
use Rattle.names.proofs.Search.{ends-other, ends_as}
use Rattle.names.proofs.read.ends.Goals as goal

pub returns-then-rest-part : goal.returns-then-rest-part
returns-then-rest-part c = ends-other c.args.part.now c.args.rest.now c.if-rest-part.true

pub returns : goal.returns
returns c = ends_as c.args.part.now c.args.rest.now c.if-rest-part.false c.goes_on.ensures
