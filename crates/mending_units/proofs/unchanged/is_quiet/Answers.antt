-- `mending_units::unchanged::is_quiet` meets its contract: a letter, or what the test of surrogates
-- says.
use mathlib.Core.Path.{sym, ◌∙◌}
use Rattle.mending_units.proofs.unchanged.is_quiet.Goals as goal

pub returns-then-is_within : goal.returns-then-is_within
returns-then-is_within c = rw (sym c.is_within.ensures ∙ c.if-is_within.true)

pub returns : goal.returns
returns c = rw (sym c.is_within.ensures ∙ c.if-is_within.false, c.is_within-2.ensures)
