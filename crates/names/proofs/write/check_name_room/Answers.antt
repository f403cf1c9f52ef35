-- `names::write::check_name_room` meets its contract: 23 bytes are always enough, else the lengths of
-- the three strings are counted.
use mathlib.Core.Path.{sym, ap}
use native.Mathlib.Omega.{arith}
use lib.ListN.{length}
use Rattle.answers.proofs.Checks.{no-room-passes, no-room-counted}
use Rattle.names.proofs.Writing.{name-size}
use Rattle.names.proofs.Lengths.{initial-most, peak-most, final-most, name-most}
use Rattle.names.proofs.write.check_name_room.Goals as goal

pub returns-then-room-ge23 : goal.returns-then-room-ge23
returns-then-room-ge23 c = sym (no-room-passes _ _ (omega (arith, name-most c.args.indices.initial c.args.indices.peak c.args.indices.last, c.if-room-ge23.true)))

pub overflow_add-initial-2 : goal.overflow_add-initial-2
overflow_add-initial-2 c = omega (
  arith,
  ap length c.initial-initial.ensures,
  initial-most c.args.indices.initial,
  ap length c.peak-peak.ensures,
  peak-most c.args.indices.peak,
)

pub overflow_add-initial-3 : goal.overflow_add-initial-3
overflow_add-initial-3 c = omega (
  arith,
  ap length c.initial-initial.ensures,
  initial-most c.args.indices.initial,
  ap length c.peak-peak.ensures,
  peak-most c.args.indices.peak,
  ap length c.last-last.ensures,
  final-most c.args.indices.last,
)

pub returns : goal.returns
returns c =
    let size = name-size c.args.indices.initial c.args.indices.peak c.args.indices.last in
    no-room-counted _ _ (omega (arith, size, ap length c.initial-initial.ensures, ap length c.peak-peak.ensures, ap length c.last-last.ensures)) c.check_room.ensures
