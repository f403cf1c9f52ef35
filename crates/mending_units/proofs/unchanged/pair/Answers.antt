-- `mending_units::unchanged::pair` meets its contract: fewer than two units, no high surrogate, no
-- low one after it, or a pair.
use native.Mathlib.Omega.{arith}
use Prim.Native.Nat.{◌+◌}
use Rattle.encodings.proofs.Taking.{test-true}
use Rattle.mending.proofs.Turns.{passes_none}
use Rattle.mending_units.proofs.Passes.{pair-passes}
use Rattle.mending_units.proofs.unchanged.pair.Goals as goal

pub returns-then-text-at-lt2 : goal.returns-then-text-at-lt2
returns-then-text-at-lt2 c = passes_none _ _ c.requires

pub overflow_cast-text : goal.overflow_cast-text
overflow_cast-text c = omega (arith, c.shared_slice_known-2-1.given c.args.at)

pub returns-then-not-is_within : goal.returns-then-not-is_within
returns-then-not-is_within c = passes_none _ _ c.requires

pub overflow_cast-text-2 : goal.overflow_cast-text-2
overflow_cast-text-2 c = omega (arith, c.shared_slice_known-3-1.given (c.args.at + 1))

pub returns-then-not-is_within-2 : goal.returns-then-not-is_within-2
returns-then-not-is_within-2 c = passes_none _ _ c.requires

pub returns : goal.returns
returns c = pair-passes _ _ (omega arith) (test-true c.is_within.ensures c.if-not-is_within.false) (test-true c.is_within-2.ensures c.if-not-is_within-2.false)
