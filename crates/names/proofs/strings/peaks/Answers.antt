-- `names::strings::peaks` meets its contract: its table is made of the strings of `peaks`, by
-- computation, and so gives them back.
use mathlib.Core.Path.{refl}
use Rattle.names.specs.Names.{peaks as strings}
use Rattle.names.proofs.Rows.{rows_right}
use Rattle.names.proofs.strings.peaks.Goals as goal

pub returns : goal.returns
unfolding strings
returns c = record { bytes = refl; strings = rows_right _ strings refl tt }
