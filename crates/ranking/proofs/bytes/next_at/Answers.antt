-- `ranking::bytes::next_at` meets its contract: the joined character that begins at the index.
use Rattle.ranking.proofs.Texts.{byte-begins}
use Rattle.ranking.proofs.bytes.next_at.Goals as goal

pub returns : goal.returns
returns c = byte-begins _ _ c.requires c.character_at-taken.ensures c.next_of.ensures
