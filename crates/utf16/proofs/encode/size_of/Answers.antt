-- `utf16::encode::size_of` meets its contract: one unit below 10000, else two.
use native.Mathlib.Omega.{arith}
use Rattle.utf16.proofs.Writing.{long-one, long-two}
use Rattle.utf16.proofs.encode.size_of.Goals as goal

pub returns-in-0-to-65535 : goal.returns-in-0-to-65535
returns-in-0-to-65535 c = long-one _ (omega arith)

pub returns-in_default : goal.returns-in_default
returns-in_default c = long-two _ (omega arith)
