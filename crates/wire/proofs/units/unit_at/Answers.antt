-- `wire::units::unit_at` meets its contract.
use mathlib.Core.Path.{sym}
use Rattle.wire.proofs.TwoBytes.{unit-none, unit-some}
use Rattle.wire.proofs.units.unit_at.Goals as goal

pub returns-then-bytes-index : goal.returns-then-bytes-index
returns-then-bytes-index c = sym (unit-none _ _ c.if-bytes-index.true)

pub returns : goal.returns
returns c = unit-some _ _ c.if-bytes-index.false c.from_le_bytes.ensures
