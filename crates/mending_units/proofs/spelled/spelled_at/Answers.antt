-- `mending_units::spelled::spelled_at` meets its contract: an initial and a peak, and perhaps a
-- final after them.
use native.Mathlib.Omega.{arith}
use Rattle.laws.proofs.Ranges.{within-below, within-above}
use Rattle.mending_units.proofs.Found.{spelled-two, spelled-three}
use Rattle.mending_units.proofs.spelled.spelled_at.Goals as goal

pub returns-in-4520-to-4546-clause-value : goal.returns-in-4520-to-4546-clause-value
returns-in-4520-to-4546-clause-value c = spelled-three c.args.text.now c.args.at c.unit_at.ensures.value (omega arith) (omega arith)
    c.unit_at-2.ensures.value (omega arith) (omega arith) c.unit_at-3.ensures.value c.unit_at-3.ensures.upper_bound (omega arith) (omega arith)

pub returns-in_default-unit_at-2-clause-value : goal.returns-in_default-unit_at-2-clause-value
returns-in_default-unit_at-2-clause-value c = spelled-two c.args.text.now c.args.at c.unit_at.ensures.value (omega arith) (omega arith)
    c.unit_at-2.ensures.value (omega arith) (omega arith) c.unit_at-3.ensures.value c.unit_at-3.ensures.upper_bound (within-below _ _ _ (omega arith))

pub returns-in_default-unit_at-2-2-clause-value : goal.returns-in_default-unit_at-2-2-clause-value
returns-in_default-unit_at-2-2-clause-value c = spelled-two c.args.text.now c.args.at c.unit_at.ensures.value (omega arith) (omega arith)
    c.unit_at-2.ensures.value (omega arith) (omega arith) c.unit_at-3.ensures.value c.unit_at-3.ensures.upper_bound (within-above _ _ _ (omega arith))
