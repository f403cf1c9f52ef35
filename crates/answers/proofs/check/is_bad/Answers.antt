-- `answers::check::is_bad` meets its contract: at each return the range that the code point lies in
-- is known, and a law says what `bad` is there.
use mathlib.Core.Path.{sym}
use native.Mathlib.Omega.{arith}
use Rattle.answers.proofs.Checks.{good-low, good-high, bad-surrogate, bad-over}
use Rattle.answers.proofs.check.is_bad.Goals as goal

pub returns-in-0-to-55295 : goal.returns-in-0-to-55295
returns-in-0-to-55295 c = sym (good-low _ (omega arith))

pub returns-in-57344-to-1114111 : goal.returns-in-57344-to-1114111
returns-in-57344-to-1114111 c = sym (good-high _ (omega arith) (omega arith))

pub returns-in_default : goal.returns-in_default
returns-in_default c = sym (bad-surrogate _ (omega arith) (omega arith))

pub returns-in_default-2 : goal.returns-in_default-2
returns-in_default-2 c = sym (bad-over _ (omega arith))
