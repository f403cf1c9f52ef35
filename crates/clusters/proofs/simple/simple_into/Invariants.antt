-- `clusters::simple::simple_into` meets its contract. The loop's invariant: what is written and
-- what is left make up the whole.
use Rattle.clusters.specs.Simple.{simple_of, simple}
use Rattle.laws.proofs.Filling.{Filling}
use Rattle.laws.specs.Lists.{each}
use lib.ListN.{drop}
use Rattle.clusters.proofs.simple.simple_into.Given as goal

abbrev pub invariant-loop-code : goal.invariant-loop-code
invariant-loop-code l = Filling (simple l.text) (each simple_of (drop l.code-index l.text)) l.initial.out l.out l.at
