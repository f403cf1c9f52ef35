-- `names::read::search` meets its contract. Of the rows that a loop has passed, no initial begins
-- what is left after the prefix, no peak what is left after the initial, and no final is what is
-- left after the peak.
use mathlib.Core.Path.{◌≡◌}
use mathlib.Core.List.{[]}
use Prim.Native.Nat.{ℕ, ◌<◌}
use lib.ListN.{get_or}
use Rattle.names.specs.Names.{finals}
use Rattle.names.proofs.Search.{NoFinal, NoPeak}
use Rattle.names.proofs.read.search.Given as goal

abbrev pub invariant-loop-last : goal.invariant-loop-last
invariant-loop-last l = (f : ℕ) → f < l.last → l.rest ≡ get_or finals f [] → ⊥

abbrev pub invariant-loop-peak : goal.invariant-loop-peak
invariant-loop-peak l = (p : ℕ) → p < l.peak → NoFinal l.rest p

abbrev pub invariant-loop-initial : goal.invariant-loop-initial
invariant-loop-initial l = (i : ℕ) → i < l.initial' → NoPeak l.rest i
