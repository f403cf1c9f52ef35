-- `fillers::text::turned_count` meets its contract. The loop's invariant: what is counted and what
-- is left make up the whole.
use Rattle.fillers.specs.Groups.{turned}
use Rattle.laws.proofs.Filling.{Counting}
use lib.ListN.{length, drop}
use Prim.Native.Nat.{◌-◌, ◌≤◌}
use Rattle.fillers.proofs.text.turned_count.Given as goal

abbrev pub invariant-loop-read : goal.invariant-loop-read
invariant-loop-read l = (l.read ≤ length l.text) × Counting (turned l.text) (turned (drop l.read l.text)) l.count

abbrev pub decreases-loop-read : goal.decreases-loop-read
decreases-loop-read l = length l.text - l.read
