-- `clusters::table::extended_rows` meets its contract: the numbers unpack to the rows of their codes, by one
-- computed test.
use mathlib.Core.Path.{refl}
use Rattle.laws.specs.Lists.{each}
use Rattle.laws.proofs.Strings.{same_true}
use Rattle.clusters.specs.Table.{clusters, letters_of}
use Rattle.clusters.specs.Rows.{numbers_from, extended_codes, rows_of}
use Rattle.clusters.proofs.table.extended_rows.Goals as goal

pub returns : goal.returns
unfolding each numbers_from letters_of clusters
returns c = record { value = refl; result_value = same_true _ (rows_of extended_codes) refl }
