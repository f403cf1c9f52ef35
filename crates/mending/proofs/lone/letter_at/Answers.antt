-- `mending::lone::letter_at` meets its contract: a letter that is no modern initial or has no
-- modern peak after it.
use mathlib.Core.Path.{sym, ◌∙◌}
use native.Mathlib.Omega.{arith}
use Rattle.std.proofs.lemmas.Option.{IfSome_then}
use Rattle.mending.proofs.Alone.{letter-character}
use Rattle.mending.proofs.lone.letter_at.Goals as goal
use Rattle.mending.proofs.lone.letter_at.Goals.{else-tail-le33938-via-then-tail-le33938+else-is_peak_at, else-tail-le33938-via-else-tail-le33938}

pub returns-clause-value : goal.returns-clause-value
returns-clause-value c = IfSome_then _ c.letter_of.ensures (λ taken letter. letter-character _ _ c.in-Some-33920-to-34751.ensures letter (λ h. elim c.else-tail-le33938.branch [
  | else-tail-le33938-via-then-tail-le33938+else-is_peak_at w ↦ sym w.is_peak_at.ensures ∙ w.if-is_peak_at.false
  | else-tail-le33938-via-else-tail-le33938 w ↦ absurd (omega (arith, h, w.if-tail-le33938.false))
]))
