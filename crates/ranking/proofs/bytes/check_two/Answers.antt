-- `ranking::bytes::check_two` meets its contract: 1 for the first text, then 1 for the second.
use borrow.Author.Rules.{rules}
use mathlib.Core.Path.{sym}
use Rattle.ranking.specs.Ranking.{takes_two_bytes}
use Rattle.ranking.proofs.Calls.{bytes-second}
use Rattle.ranking.proofs.bytes.check_two.Goals as goal

pub returns-in_err-check_bytes : goal.returns-in_err-check_bytes
unfolding takes_two_bytes
returns-in_err-check_bytes c = search rules

pub returns : goal.returns
returns c = bytes-second _ _ c.check_bytes.ensures c.in_ok-check_bytes.was _ c.check_bytes-2.ensures
