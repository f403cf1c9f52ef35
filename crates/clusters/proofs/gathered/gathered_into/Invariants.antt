-- `clusters::gathered::gathered_into` meets its contract. The loop's invariant: what is written and
-- what is still to come make up the whole.
use Rattle.clusters.specs.Inner.{coded, state_of}
use Rattle.clusters.specs.Gathering.{gathered}
use Rattle.laws.proofs.Filling.{Filling}
use Rattle.laws.specs.Machines.{from}
use lib.ListN.{drop}
use Rattle.clusters.proofs.gathered.gathered_into.Given as goal

abbrev pub invariant-loop-code : goal.invariant-loop-code
invariant-loop-code l = Filling (gathered l.text) (from coded (state_of l.writer) (drop l.code-index l.text)) l.initial.out l.out l.writer.at
