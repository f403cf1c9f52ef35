-- `mending::text::At::place` meets its contract: the character has room, so all its bytes are written.
use Rattle.mending.proofs.Turns.{fits-placed}
use Rattle.mending.proofs.text.At.place.Goals as goal

pub returns : goal.returns
returns c = fits-placed c.requires
    c.put_at-written.ensures
