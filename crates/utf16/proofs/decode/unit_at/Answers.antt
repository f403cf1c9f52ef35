-- `utf16::decode::unit_at` meets its contract: the unit at an index of the text, or 0 after its
-- end.
use mathlib.Core.Path.{refl, sym}
use native.Mathlib.Omega.{arith}
use lib.ListN.{get_or-eq_default}
use Rattle.utf16.proofs.decode.unit_at.Goals as goal

pub overflow_cast-result : goal.overflow_cast-result
overflow_cast-result c = omega (arith, c.shared_slice_known-1.given c.args.at)

pub returns-then-at-text : goal.returns-then-at-text
returns-then-at-text c = record { value = refl; upper_bound = omega (arith, c.shared_slice_known-1.given c.args.at) }

pub returns : goal.returns
returns c = record { value = sym (get_or-eq_default c.args.text.now 0 c.if-at-text.false); upper_bound = omega arith }
