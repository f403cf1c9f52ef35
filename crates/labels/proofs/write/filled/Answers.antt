-- `labels::write::filled` meets its contract: a fresh record, its numbers, and then the label.
use mathlib.Core.Path.{◌∙◌}
use Rattle.labels.proofs.Storing.{record-made}
use Rattle.labels.proofs.write.filled.Goals as goal

pub returns : goal.returns
returns c =
    let made = record-made c.args.object c.args.berth c.args.label.now c.fresh-record.ensures.value_2
    (c.copy_from_slice.ensures.after ∙ c.to_be_bytes.ensures)
    (c.copy_from_slice-2.ensures.after ∙ c.to_be_bytes-2.ensures) c.requires c.copy.ensures in
    record { value = made.0; value_2 = made.1 }
