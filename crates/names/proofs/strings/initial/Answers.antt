-- `names::strings::initial` meets its contract: the string of a row.
use mathlib.Core.Path.{◌∙◌}
use Rattle.names.specs.Names.{initials as strings}
use Rattle.names.proofs.Rows.{row_is}
use Rattle.names.proofs.strings.initial.Goals as goal

pub returns : goal.returns
unfolding strings
returns c = c.letters.ensures.string ∙ row_is _ _ c.initials.ensures.strings _ c.requires
