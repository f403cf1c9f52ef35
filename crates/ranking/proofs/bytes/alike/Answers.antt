-- `ranking::bytes::alike` meets its contract: the common front of what is left of the two texts.
use Rattle.ranking.proofs.Texts.{alike-common}
use Rattle.ranking.proofs.bytes.alike.Goals as goal

pub returns : goal.returns
returns c = alike-common _ _ _ _ c.requires.at_in_bounds c.requires.other_in_bounds c.common.ensures
