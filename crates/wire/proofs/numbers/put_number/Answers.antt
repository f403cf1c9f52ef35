-- `wire::numbers::put_number` meets its contract.
use Rattle.wire.proofs.FourBytes.{put-none, put-four}
use Rattle.wire.proofs.numbers.put_number.Goals as goal

pub returns-then-bytes-index : goal.returns-then-bytes-index
returns-then-bytes-index c = put-none _ _ _ c.if-bytes-index.true

pub returns : goal.returns
returns c = put-four _ _ _ c.if-bytes-index.false c.ranges.value.fits c.to_le_bytes-four.ensures c.copy_from_slice.ensures.after
