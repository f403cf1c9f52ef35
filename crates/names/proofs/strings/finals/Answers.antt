-- `names::strings::finals` meets its contract: its table is made of the strings of `finals`, by
-- computation, and so gives them back.
use mathlib.Core.Path.{refl}
use Rattle.names.specs.Names.{finals as strings}
use Rattle.names.proofs.Rows.{rows_right}
use Rattle.names.proofs.strings.finals.Goals as goal

pub returns : goal.returns
unfolding strings
returns c = record { bytes = refl; strings = rows_right _ strings refl tt }
