-- `names::write::put_name` meets its contract: the prefix and the three strings, one after the
-- other.
use native.Mathlib.Omega.{arith}
use mathlib.Core.Path.{ap}
use lib.ListN.{length}
use Rattle.names.proofs.Lengths.{initial-most, peak-most, final-most}
use Rattle.names.proofs.Writing.{room-prefix, room-initial, room-peak, room-last, wrote-name}
use Rattle.names.proofs.write.put_name.Goals as goal

pub put_prefix-after_prefix-requires : goal.put_prefix-after_prefix-requires
put_prefix-after_prefix-requires c = room-prefix _ _ _ c.requires.last_in_bounds

pub put_part-after_initial-requires : goal.put_part-after_initial-requires
put_part-after_initial-requires c = record {
  few = omega (arith, ap length c.initial.ensures, initial-most c.args.indices.initial);
  room = rw c.initial.ensures (room-initial _ _ _ c.requires.last_in_bounds c.put_prefix-after_prefix.ensures);
}

pub put_part-after_peak-requires : goal.put_part-after_peak-requires
put_part-after_peak-requires c =
    let initial = rw c.initial.ensures at c.put_part-after_initial.ensures in
    record {
      few = omega (arith, ap length c.peak.ensures, peak-most c.args.indices.peak);
      room = rw c.peak.ensures (room-peak _ _ _ c.requires.last_in_bounds c.put_prefix-after_prefix.ensures initial);
    }

pub put_part-requires : goal.put_part-requires
put_part-requires c =
    let initial = rw c.initial.ensures at c.put_part-after_initial.ensures in
    let peak = rw c.peak.ensures at c.put_part-after_peak.ensures in
    record {
      few = omega (arith, ap length c.last.ensures, final-most c.args.indices.last);
      room = rw c.last.ensures (room-last _ _ _ c.requires.last_in_bounds c.put_prefix-after_prefix.ensures initial peak);
    }

pub returns : goal.returns
returns c =
    let initial = rw c.initial.ensures at c.put_part-after_initial.ensures in
    let peak = rw c.peak.ensures at c.put_part-after_peak.ensures in
    wrote-name _ _ _ c.requires.last_in_bounds c.put_prefix-after_prefix.ensures initial peak (rw c.last.ensures at c.put_part.ensures)
