-- `fillers::text::turn_into` meets its contract. The loop's invariant: what is written and what is
-- left make up the whole.
use Rattle.fillers.specs.Groups.{turned}
use Rattle.laws.proofs.Filling.{Filling}
use lib.ListN.{length, drop}
use Prim.Native.Nat.{◌-◌, ◌≤◌}
use Rattle.fillers.proofs.text.turn_into.Given as goal

abbrev pub invariant-loop-read : goal.invariant-loop-read
invariant-loop-read l = (l.read ≤ length l.text) × Filling (turned l.text) (turned (drop l.read l.text)) l.initial.out l.out l.written

abbrev pub decreases-loop-read : goal.decreases-loop-read
decreases-loop-read l = length l.text - l.read
