-- `mending::unchanged::ascii` meets its contract: nothing, or what passes byte by byte after what
-- passes eight bytes at once.
use Rattle.mending.proofs.Turns.{passes_none, passes_on}
use Rattle.mending.proofs.unchanged.ascii.Goals as goal

pub returns-then-text-from : goal.returns-then-text-from
returns-then-text-from c = passes_none _ _ c.requires

pub returns-then-text-from-ge128 : goal.returns-then-text-from-ge128
returns-then-text-from-ge128 c = passes_none _ _ c.requires

pub returns : goal.returns
returns c = passes_on c.eights-low.ensures c.ones.ensures
