-- `utf8::decode::byte_at` meets its contract: the byte at an index of the text, or 0 after its end.
use mathlib.Core.Path.{sym}
use lib.ListN.{get_or-eq_default}
use Rattle.utf8.proofs.decode.byte_at.Goals as goal

pub returns : goal.returns
returns c = sym (get_or-eq_default c.args.text.now 0 c.if-at-text.false)
