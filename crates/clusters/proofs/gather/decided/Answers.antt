-- `clusters::gather::decided` meets its contract: plain text stays; three letters, else two, else
-- the first alone.
use Rattle.clusters.proofs.Gathering.{decided-plain}
use Rattle.clusters.proofs.gather.decided.Goals as goal

pub returns-then-first-lt4352 : goal.returns-then-first-lt4352
returns-then-first-lt4352 c = decided-plain _ _ _ c.if-first-lt4352.true
