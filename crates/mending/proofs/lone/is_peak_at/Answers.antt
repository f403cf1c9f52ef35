-- `mending::lone::is_peak_at` meets its contract: the tails of the modern peaks are one range.
use mathlib.Core.Path.{sym}
use native.Mathlib.Omega.{arith}
use Rattle.std.proofs.lemmas.Option.{MatchOption-at_none}
use Rattle.mending.proofs.Alone.{peak-none, peak-some}
use Rattle.mending.proofs.lone.is_peak_at.Goals as goal

pub returns-in-Some-34209-to-34229 : goal.returns-in-Some-34209-to-34229
returns-in-Some-34209-to-34229 c = sym (peak-some _ _ c.in-Some-34209-to-34229.ensures (omega arith) (omega arith))

pub returns-in_default : goal.returns-in_default
returns-in_default c = peak-none _ _ c.in_default.ensures (λ l m. omega (arith, l, m))

pub returns-in_default-2 : goal.returns-in_default-2
returns-in_default-2 c = peak-none _ _ c.in_default.ensures (λ l m. omega (arith, l, m))

pub returns-in_default-3 : goal.returns-in_default-3
returns-in_default-3 c = peak-none _ _ (MatchOption-at_none _ _ c.in_default.is c.tail_at.ensures) (λ l m. omega (arith, l))
