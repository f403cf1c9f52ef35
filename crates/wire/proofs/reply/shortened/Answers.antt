-- `wire::reply::shortened` meets its contract.
use mathlib.Core.Path.{refl}
use Rattle.wire.specs.Messages.{short}
use Rattle.wire.proofs.reply.shortened.Goals as goal

pub returns : goal.returns
unfolding short
returns c = refl
