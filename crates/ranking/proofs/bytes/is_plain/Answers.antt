-- `ranking::bytes::is_plain` meets its contract: each return knows where the byte lies.
use mathlib.Core.Path.{sym}
use native.Mathlib.Omega.{arith}
use Rattle.ranking.proofs.Texts.{plain-below, plain-digit, plain-above, plain-high}
use Rattle.ranking.proofs.bytes.is_plain.Goals as goal

pub returns-in-0-to-47 : goal.returns-in-0-to-47
returns-in-0-to-47 c = sym (plain-below _ (omega arith))

pub returns-in-0-to-47-2 : goal.returns-in-0-to-47-2
returns-in-0-to-47-2 c = sym (plain-above _ (omega arith) (omega arith))

pub returns-in_default : goal.returns-in_default
returns-in_default c = sym (plain-digit _ (omega arith) (omega arith))

pub returns-in_default-2 : goal.returns-in_default-2
returns-in_default-2 c = sym (plain-high _ (omega arith))
