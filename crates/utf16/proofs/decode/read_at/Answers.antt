-- `utf16::decode::read_at` meets its contract: the end, a high surrogate, a low one, or neither.
use mathlib.Core.Path.{refl, ◌∙◌}
use native.Mathlib.Omega.{arith}
use Rattle.utf16.proofs.Takes.{at-end, at_low, at_high, at-unpaired-low, begins-pair}
use Rattle.utf16.proofs.decode.read_at.Goals as goal
use Rattle.utf16.proofs.decode.read_at.Goals.{in_default-via-then-first-lt55296, in_default-via-else-first-lt55296+else-first-lt56320+else-first-lt57344}

pub returns-then-text-at : goal.returns-then-text-at
returns-then-text-at c = c.good.ensures ∙ at-end _ _ c.if-text-at.true

pub overflow_cast-first : goal.overflow_cast-first
overflow_cast-first c = omega (arith, c.shared_slice_known-2-1.given c.args.at)

pub read_pair-requires : goal.read_pair-requires
read_pair-requires c = begins-pair _ _ c.if-text-at.false refl (omega arith) (omega arith)

pub returns-in-56320-to-57343 : goal.returns-in-56320-to-57343
returns-in-56320-to-57343 c = c.ill.ensures ∙ at-unpaired-low _ _ c.if-text-at.false refl (omega arith) (omega arith)

pub returns-in_default : goal.returns-in_default
returns-in_default c =
    elim c.in_default.branch [
      | in_default-via-then-first-lt55296 w ↦ c.good-in_default.ensures ∙ at_low _ _ c.if-text-at.false refl (omega arith)
      | in_default-via-else-first-lt55296+else-first-lt56320+else-first-lt57344 w ↦
          c.good-in_default.ensures ∙ at_high _ _ c.if-text-at.false refl (omega arith) (omega (arith, c.shared_slice_known-2-1.given c.args.at))
    ]
