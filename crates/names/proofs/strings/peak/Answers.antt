-- `names::strings::peak` meets its contract: the string of a row.
use mathlib.Core.Path.{◌∙◌}
use Rattle.names.specs.Names.{peaks as strings}
use Rattle.names.proofs.Rows.{row_is}
use Rattle.names.proofs.strings.peak.Goals as goal

pub returns : goal.returns
unfolding strings
returns c = c.letters.ensures.string ∙ row_is _ _ c.peaks.ensures.strings _ c.requires
