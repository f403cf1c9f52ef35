-- `joining::text::write_joined` meets its contract. The loop's invariant: what is written and what
-- is still to come make up the whole.
use Rattle.laws.proofs.Filling.{Filling}
use lib.ListN.{drop}
use Rattle.laws.specs.Machines.{from}
use Rattle.joining.specs.Joining.{join, joiner as machine}
use Rattle.joining.proofs.text.write_joined.Given as goal

abbrev pub invariant-loop-code : goal.invariant-loop-code
invariant-loop-code l = Filling (join l.text) (from machine l.joiner.state (drop l.code-index l.text)) l.initial.out l.out l.at
