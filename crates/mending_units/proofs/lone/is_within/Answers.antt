-- `mending_units::lone::is_within` meets its contract: a range holds what it tests.
use borrow.Author.Rules.{rules}
use Rattle.laws.specs.Ranges.{within}
use Rattle.mending_units.proofs.lone.is_within.Goals as goal

pub returns : goal.returns
unfolding within
returns c = search rules
