-- `wire::units::put_unit` meets its contract.
use Rattle.wire.proofs.TwoBytes.{put-none, put-two}
use Rattle.wire.proofs.units.put_unit.Goals as goal

pub returns-then-bytes-index : goal.returns-then-bytes-index
returns-then-bytes-index c = put-none _ _ _ c.if-bytes-index.true

pub returns : goal.returns
returns c = put-two _ _ _ c.if-bytes-index.false c.ranges.value.fits c.to_le_bytes-two.ensures c.copy_from_slice.ensures.after
