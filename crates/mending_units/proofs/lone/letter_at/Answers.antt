-- `mending_units::lone::letter_at` meets its contract: a letter that is no initial, or has no peak
-- after it.
use mathlib.Core.Path.{refl, sym, ◌∙◌, ap}
use Prim.Native.Nat.{◌+◌}
use native.Mathlib.Omega.{arith}
use Rattle.laws.specs.Ranges.{within}
use Rattle.mending_units.proofs.Found.{letter-character}
use Rattle.mending_units.proofs.lone.letter_at.Goals as goal
use Rattle.mending_units.proofs.lone.letter_at.Goals.{in-4352-to-4370+else-is_within, else-this-lt4371+then-this-lt4608}

pub returns-in-4352-to-4607-clause-value : goal.returns-in-4352-to-4607-clause-value
returns-in-4352-to-4607-clause-value c = elim c.in-4352-to-4607-1.branch [
  | in-4352-to-4370+else-is_within w ↦
      letter-character c.args.text.now c.args.at refl (omega arith) (omega arith) (omega (arith, c.type_inv.text (c.args.at + 1)))
      (λ h. ap (within 0x1161 0x1175) (sym w.unit_at.ensures.value) ∙ sym w.is_within.ensures ∙ w.if-is_within.false)
  | else-this-lt4371+then-this-lt4608 w ↦
      letter-character c.args.text.now c.args.at refl (omega arith) (omega arith) (omega (arith, c.type_inv.text (c.args.at + 1)))
      (λ h. absurd (omega (arith, h)))
]
