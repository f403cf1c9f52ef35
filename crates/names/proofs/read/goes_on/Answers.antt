use mathlib.Core.Path.{sym}
use Rattle.laws.proofs.Strings.{begins-short}
use Rattle.names.proofs.read.goes_on.Goals as goal

pub returns-then-rest-part : goal.returns-then-rest-part
returns-then-rest-part c = sym (begins-short c.args.part.now c.args.rest.now c.if-rest-part.true)
