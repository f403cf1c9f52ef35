-- `mending::text::copy` meets its contract: the bytes read so far are those written, one after the
-- other.
use Prim.Native.Nat.{◌≤◌}
use Rattle.mending.proofs.Turns.{Copying}
use Rattle.mending.proofs.text.copy.Given as goal

abbrev pub invariant-loop-read : goal.invariant-loop-read
invariant-loop-read l = (l.from ≤ l.read) × (l.read ≤ l.to) × Copying l.text l.from l.read l.initial.out l.at l.out l.written
