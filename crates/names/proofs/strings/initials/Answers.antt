-- `names::strings::initials` meets its contract: its table is made of the strings of `initials`, by
-- computation, and so gives them back.
use mathlib.Core.Path.{refl}
use Rattle.names.specs.Names.{initials as strings}
use Rattle.names.proofs.Rows.{rows_right}
use Rattle.names.proofs.strings.initials.Goals as goal

pub returns : goal.returns
unfolding strings
returns c = record { bytes = refl; strings = rows_right _ strings refl tt }
