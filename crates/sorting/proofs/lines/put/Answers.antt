-- `sorting::lines::put` meets its contract: the digits, and then the line feed.
use mathlib.Core.Path.{refl}
use native.Mathlib.Omega.{arith}
use Rattle.laws.proofs.Filling.{room-first, room-second, room-one, wrote_one, wrote-two}
use Rattle.sorting.proofs.NumberLines.{line-pieces, line-length}
use Rattle.sorting.proofs.lines.put.Goals as goal

pub put_decimal-end-requires : goal.put_decimal-end-requires
put_decimal-end-requires c = room-first c.requires (line-pieces _)

pub bounds-out-end : goal.bounds-out-end
bounds-out-end c = room-one (room-second c.requires (line-pieces _) c.put_decimal-end.ensures) refl

pub overflow_add-result : goal.overflow_add-result
overflow_add-result c = omega (arith, c.requires.fits, c.well_formed, c.put_decimal-end.ensures.after, line-length c.args.number)

pub returns : goal.returns
returns c = wrote-two (line-pieces _) c.put_decimal-end.ensures (wrote_one refl)
