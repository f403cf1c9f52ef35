-- `clusters::simple::simple_count` meets its contract. The loop's invariant: what is counted and
-- what is left make up the whole.
use Rattle.clusters.specs.Simple.{simple_of, simple}
use Rattle.laws.proofs.Filling.{Counting}
use Rattle.laws.specs.Lists.{each}
use lib.ListN.{drop}
use Rattle.clusters.proofs.simple.simple_count.Given as goal

abbrev pub invariant-loop-code : goal.invariant-loop-code
invariant-loop-code l = Counting (simple l.text) (each simple_of (drop l.code-index l.text)) l.count
