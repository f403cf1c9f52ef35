-- `mending::spelled::spelled_at` meets its contract: two letters, or three.
use Rattle.mending.proofs.Spelling.{initial-inside, last-small, spelled-two, spelled-three}
use native.Mathlib.Nat.{add-zero}
use native.Mathlib.Omega.{arith}
use Rattle.mending.proofs.spelled.spelled_at.Goals as goal

pub overflow_add-at : goal.overflow_add-at
overflow_add-at c = omega (arith, initial-inside _ _ c.in-Some-33920-to-33938.ensures (omega arith) (omega arith))

pub overflow_add-at-2 : goal.overflow_add-at-2
overflow_add-at-2 c = omega (arith, initial-inside _ _ c.in-Some-33920-to-33938.ensures (omega arith) (omega arith))

pub overflow_add-result : goal.overflow_add-result
overflow_add-result c = omega (
  arith,
  last-small _ _ c.in-Some-33920-to-33938.ensures (omega arith) (omega arith)
      c.in-Some-34209-to-34229.ensures (omega arith) (omega arith) c.final_at-last.ensures,
)

pub returns-then-last-eq0-clause-value : goal.returns-then-last-eq0-clause-value
returns-then-last-eq0-clause-value c = rw (c.if-last-eq0.true, add-zero) (spelled-two _ _ c.in-Some-33920-to-33938.ensures (omega arith) (omega arith)
    c.in-Some-34209-to-34229.ensures (omega arith) (omega arith) c.final_at-last.ensures c.if-last-eq0.true)

pub returns-else-last-eq0-clause-value : goal.returns-else-last-eq0-clause-value
returns-else-last-eq0-clause-value c = spelled-three _ _ c.in-Some-33920-to-33938.ensures (omega arith) (omega arith)
    c.in-Some-34209-to-34229.ensures (omega arith) (omega arith) c.final_at-last.ensures c.if-last-eq0.false

pub returns-else-last-eq0-clause-triple : goal.returns-else-last-eq0-clause-triple
returns-else-last-eq0-clause-triple c =
    let few = last-small _ _ c.in-Some-33920-to-33938.ensures (omega arith) (omega arith)
    c.in-Some-34209-to-34229.ensures (omega arith) (omega arith) c.final_at-last.ensures in
    record { least = omega arith; most = omega (arith, few) }
