-- `labels::write::store_given` meets its contract: over 88 bytes nothing is written; else the
-- record is.
use native.Mathlib.Omega.{arith}
use Rattle.labels.proofs.Storing.{stores-refused, stores-done}
use Rattle.labels.proofs.write.store_given.Goals as goal

pub returns-then-label-gt88 : goal.returns-then-label-gt88
returns-then-label-gt88 c = stores-refused _ _ _ _ c.args.label.now (omega (arith, c.if-label-gt88.true))

pub returns : goal.returns
returns c = stores-done _ _ _ _ c.args.label.now
    (omega (arith, c.if-label-gt88.false)) c.put_at.ensures
