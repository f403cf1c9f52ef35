-- `clusters::gathered::gathered_count` meets its contract. The loop's invariant: what is counted
-- and what is still to come make up the whole, and the fourteen places that it writes to stay
-- fourteen.
use Rattle.clusters.specs.Inner.{coded, state_of}
use Rattle.clusters.specs.Gathering.{gathered}
use Rattle.laws.proofs.Filling.{Counting}
use Rattle.laws.specs.Machines.{from}
use lib.ListN.{length, drop}
use mathlib.Core.Path.{◌≡◌}
use Rattle.clusters.proofs.gathered.gathered_count.Given as goal

abbrev pub invariant-loop-code : goal.invariant-loop-code
invariant-loop-code l = (length l.scratch ≡ 14) × (l.writer.at ≡ 0) × Counting (gathered l.text) (from coded (state_of l.writer) (drop l.code-index l.text)) l.total
