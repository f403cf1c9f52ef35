-- `joining::text::joined_count` meets its contract. The loop's invariant: what is counted and what
-- is still to come make up the whole.
use Rattle.laws.proofs.Filling.{Counting}
use lib.ListN.{drop}
use Rattle.laws.specs.Machines.{from}
use Rattle.joining.specs.Joining.{join, joiner as machine}
use Rattle.joining.proofs.text.joined_count.Given as goal

abbrev pub invariant-loop-code : goal.invariant-loop-code
invariant-loop-code l = Counting (join l.text) (from machine l.joiner.state (drop l.code-index l.text)) l.count
