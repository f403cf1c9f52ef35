-- `names::read::after` meets its contract: the string is not there, or it is and the letter after it
-- decides.
use mathlib.Core.Path.{refl, sym}
use Rattle.laws.proofs.Strings.{begins-least}
use Rattle.names.proofs.Search.{followed-by}
use Rattle.names.proofs.read.after.Goals as goal

pub slice_bounds-left-count : goal.slice_bounds-left-count
slice_bounds-left-count c = begins-least c.args.part.now c.args.rest.now (sym c.if-not-goes_on.ensures)

pub slice_bounds-left-start : goal.slice_bounds-left-start
slice_bounds-left-start c = begins-least c.args.part.now c.args.rest.now (sym c.if-not-goes_on.ensures)

pub returns : goal.returns
returns c =
    rw c.then_some.ensures (followed-by c.args.part.now c.args.vowel c.args.rest.now c.goes_on.ensures c.if-not-goes_on.false _ refl c.vowel_first.ensures)
