-- `answers::check::first_bad` meets its contract. The loop's invariant: i and the first bad one of
-- what is left make up the index wanted.
use mathlib.Core.Path.{◌≡◌}
use Prim.Native.Nat.{◌+◌}
use lib.ListN.{drop}
use Rattle.answers.specs.Checks.{first_bad}
use Rattle.answers.proofs.check.first_bad.Given as goal

abbrev pub invariant-loop-i : goal.invariant-loop-i
invariant-loop-i l = l.i + first_bad (drop l.i l.text) ≡ first_bad l.text
