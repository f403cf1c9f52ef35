-- `mending::unchanged::syllables` meets its contract: the text has ended, or the last three bytes
-- pass after what passes before them.
use Rattle.mending.proofs.Turns.{passes_none, passes_on}
use Rattle.mending.proofs.unchanged.syllables.Goals as goal

pub returns-then-text-from : goal.returns-then-text-from
returns-then-text-from c = passes_none _ _ c.requires

pub returns : goal.returns
returns c = passes_on c.threes-end.ensures c.last_three.ensures
