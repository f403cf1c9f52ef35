-- `clusters::table::packed_at` meets its contract: the number at the code's place in the tables, or
-- none where the code has no row.
use native.Mathlib.Omega.{arith}
use Rattle.clusters.specs.Inner.{packs-none}
use Rattle.clusters.proofs.Codes.{in_table, in-initials, in-peaks, in-finals, before-table, before-initials, before-peaks, before-finals, after-finals}
use Rattle.clusters.proofs.Rows.{table-packed, extended-packed}
use Rattle.clusters.proofs.table.packed_at.Goals as goal

pub returns-in-4352-to-4607 : goal.returns-in-4352-to-4607
returns-in-4352-to-4607 c = table-packed _ _ c.table_rows-table.ensures.result_value c.extended_rows-extended.ensures.result_value c.table_rows-table.ensures.value
    _ _ (omega arith) (in_table _ (omega arith) (omega arith))

pub returns-in-43360-to-43388 : goal.returns-in-43360-to-43388
returns-in-43360-to-43388 c = extended-packed _ _ c.table_rows-table.ensures.result_value c.extended_rows-extended.ensures.result_value c.table_rows-table.ensures.value
    _ _ (omega arith) (in-initials _ (omega arith) (omega arith))

pub returns-in-55216-to-55238 : goal.returns-in-55216-to-55238
returns-in-55216-to-55238 c = extended-packed _ _ c.table_rows-table.ensures.result_value c.extended_rows-extended.ensures.result_value c.table_rows-table.ensures.value
    _ _ (omega arith) (in-peaks _ (omega arith) (omega arith))

pub returns-in-55243-to-55291 : goal.returns-in-55243-to-55291
returns-in-55243-to-55291 c = extended-packed _ _ c.table_rows-table.ensures.result_value c.extended_rows-extended.ensures.result_value c.table_rows-table.ensures.value
    _ _ (omega arith) (in-finals _ (omega arith) (omega arith))

pub returns-in_default : goal.returns-in_default
returns-in_default c = packs-none (before-table _ (omega arith))

pub returns-in_default-2 : goal.returns-in_default-2
returns-in_default-2 c = packs-none (before-initials _ (omega arith) (omega arith))

pub returns-in_default-3 : goal.returns-in_default-3
returns-in_default-3 c = packs-none (before-peaks _ (omega arith) (omega arith))

pub returns-in_default-4 : goal.returns-in_default-4
returns-in_default-4 c = packs-none (before-finals _ (omega arith) (omega arith))

pub returns-in_default-5 : goal.returns-in_default-5
returns-in_default-5 c = packs-none (after-finals _ (omega arith))
