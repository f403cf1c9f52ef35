-- `utf8::encode::size_of` meets its contract: each arm of the match knows the bounds of the code
-- point.
use Rattle.utf8.proofs.Writing.{long-one, long-two, long-three, long-four}
use native.Mathlib.Omega.{arith}
use Rattle.utf8.proofs.encode.size_of.Goals as goal

pub returns-in-0-to-127 : goal.returns-in-0-to-127
returns-in-0-to-127 c = long-one _ (omega arith)

pub returns-in-128-to-2047 : goal.returns-in-128-to-2047
returns-in-128-to-2047 c = long-two _ (omega arith) (omega arith)

pub returns-in-2048-to-65535 : goal.returns-in-2048-to-65535
returns-in-2048-to-65535 c = long-three _ (omega arith) (omega arith)

pub returns-in_default : goal.returns-in_default
returns-in_default c = long-four _ (omega arith)
