-- `labels::read::read_checked` meets its contract: the record is in the image, and its label is
-- copied if there is room.
use Rattle.std.proofs.lemmas.Result.{err_from_is_err_and}
use Rattle.labels.proofs.Finding.{taken-inside, taken-label, size_is, size-short, finds-lacking, finds-done}
use mathlib.Core.Path.{sym, ◌∙◌, ap}
use lib.ListN.{length}
use native.Mathlib.Omega.{arith}
use Rattle.answers.specs.Checks.{no_room}
use Rattle.answers.proofs.Checks.{no-room-kept}
use Rattle.labels.specs.declared.record.Entry.{Entry}
use Rattle.labels.proofs.read.read_checked.Goals as goal

pub entry_at-entry-requires : goal.entry_at-entry-requires
entry_at-entry-requires c = taken-inside _ _ c.requires

pub overflow_mul-from : goal.overflow_mul-from
overflow_mul-from c = omega (arith, taken-inside _ _ c.requires)

pub overflow_add-from : goal.overflow_add-from
overflow_add-from c = omega (arith, taken-inside _ _ c.requires)

pub overflow_add-to : goal.overflow_add-to
overflow_add-to c = omega (
  arith,
  taken-inside _ _ c.requires,
  size-short _ _ c.requires c.entry_at-entry.ensures,
)

pub slice_bounds-copy-end : goal.slice_bounds-copy-end
slice_bounds-copy-end c = omega (
  arith,
  taken-inside _ _ c.requires,
  size-short _ _ c.requires c.entry_at-entry.ensures,
)

pub returns : goal.returns
returns c = finds-done _ _ c.requires
    c.entry_at-entry.ensures
    c.args.out.now
    (no-room-kept _ _ (sym c.in_ok-check_room.ensures)) c.copy.ensures

pub returns-in_err-check_room : goal.returns-in_err-check_room
returns-in_err-check_room c =
    let p = err_from_is_err_and c.from_residual.result c.from_residual.ensures.1 in
    rw (p.1, p.2) (finds-lacking _ _ c.requires c.entry_at-entry.ensures c.args.out.now c.check_room.ensures c.in_err-check_room.was)

pub copy-requires : goal.copy-requires
copy-requires c =
    rw (taken-label _ _ c.requires _ (ap (λ (e : Entry). e.length) c.entry_at-entry.ensures))
    (no-room-kept _ _ (sym (ap (no_room (length c.args.out.now)) (size_is _ _ c.requires c.entry_at-entry.ensures)) ∙ sym c.in_ok-check_room.ensures))
