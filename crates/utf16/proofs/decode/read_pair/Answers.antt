-- `utf16::decode::read_pair` meets its contract: a unit before the low surrogates, one after them,
-- or a pair.
use mathlib.Core.Path.{◌∙◌}
use Rattle.utf16.proofs.Takes.{at_pair, at_before, at_after}
use Rattle.utf16.proofs.decode.read_pair.Goals as goal

pub returns-then-second-lt56320 : goal.returns-then-second-lt56320
returns-then-second-lt56320 c = c.ill.ensures ∙ at_before _ _ c.requires c.unit_at-second.ensures.value c.if-second-lt56320.true

pub returns-then-second-gt57343 : goal.returns-then-second-gt57343
returns-then-second-gt57343 c = c.ill-then-second-gt57343.ensures ∙ at_after _ _ c.requires c.unit_at-second.ensures.value c.if-second-gt57343.true

pub returns : goal.returns
returns c = c.good.ensures ∙ at_pair _ _ c.requires c.unit_at-second.ensures.value c.if-second-lt56320.false c.if-second-gt57343.false
