-- `clusters::table::table_rows` meets its contract: the numbers unpack to the rows of their codes, by one
-- computed test.
use mathlib.Core.Path.{refl}
use Rattle.laws.specs.Lists.{each}
use Rattle.laws.proofs.Strings.{same_true}
use Rattle.clusters.specs.Table.{clusters, letters_of}
use Rattle.clusters.specs.Rows.{numbers_from, table_codes, rows_of}
use Rattle.clusters.proofs.table.table_rows.Goals as goal

pub returns : goal.returns
unfolding each numbers_from letters_of clusters
returns c = record { value = refl; result_value = same_true _ (rows_of table_codes) refl }
