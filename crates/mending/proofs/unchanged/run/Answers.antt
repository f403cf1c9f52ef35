-- `mending::unchanged::run` meets its contract: what passes after what passes, passes with it.
use Rattle.mending.proofs.Turns.{passes_none, passes_on}
use Rattle.mending.proofs.unchanged.run.Goals as goal

pub returns-then-text-from : goal.returns-then-text-from
returns-then-text-from c = passes_none _ _ c.requires

pub syllables-requires : goal.syllables-requires
syllables-requires c = c.ascii-low.ensures.goes.inside

pub returns : goal.returns
returns c = passes_on c.ascii-low.ensures c.syllables.ensures
