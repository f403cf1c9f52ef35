-- `wire::numbers::number_at` meets its contract.
use mathlib.Core.Path.{sym}
use Rattle.wire.proofs.FourBytes.{number-none, number-some}
use Rattle.wire.proofs.numbers.number_at.Goals as goal

pub returns-then-bytes-index : goal.returns-then-bytes-index
returns-then-bytes-index c = sym (number-none _ _ c.if-bytes-index.true)

pub returns : goal.returns
returns c = number-some _ _ c.if-bytes-index.false c.from_le_bytes.ensures
