-- `joining::role::role_of` meets its contract: at each return it is known whether the number is a
-- modern letter or a syllable, and `role-none` says of all others that they have no role.
use mathlib.Core.Path.{sym}
use native.Mathlib.Omega.{arith}
use Rattle.letters.proofs.Steps.{syllable-yes, syllable-least, syllable-most}
use Rattle.joining.proofs.Roles.{role-initial, role-peak, role-final, role-lv, role-lvt, role-none}
use Rattle.joining.proofs.role.role_of.Goals as goal
use Rattle.joining.proofs.role.role_of.Goals.{in_default-via-then-code-lt44032, in_default-via-else-code-lt44032+else-code-lt55204}

pub returns-in-0-to-4351 : goal.returns-in-0-to-4351
returns-in-0-to-4351 c = sym (role-none _ (λ h. omega arith) (λ h. omega arith) (λ h. omega arith) (λ s. omega (arith, syllable-least _ s)))

pub returns-then-code-eq0 : goal.returns-then-code-eq0
returns-then-code-eq0 c = sym (role-lv _ (syllable-yes _ (omega arith) (omega arith)) c.if-code-eq0.true)

pub returns-else-code-eq0 : goal.returns-else-code-eq0
returns-else-code-eq0 c = sym (role-lvt _ (syllable-yes _ (omega arith) (omega arith)) c.if-code-eq0.false)

pub returns-in-4352-to-4370 : goal.returns-in-4352-to-4370
returns-in-4352-to-4370 c = sym (role-initial _ (omega arith) (omega arith))

pub returns-in-4449-to-4469 : goal.returns-in-4449-to-4469
returns-in-4449-to-4469 c = sym (role-peak _ (omega arith) (omega arith))

pub returns-in-4520-to-4546 : goal.returns-in-4520-to-4546
returns-in-4520-to-4546 c = sym (role-final _ (omega arith) (omega arith))

pub returns-in_default-code-2 : goal.returns-in_default-code-2
returns-in_default-code-2 c = sym (role-none _ (λ h. omega arith) (λ h. omega arith) (λ h. omega arith) (λ s. omega (arith, syllable-least _ s)))

pub returns-in_default-code-3 : goal.returns-in_default-code-3
returns-in_default-code-3 c = sym (role-none _ (λ h. omega arith) (λ h. omega arith) (λ h. omega arith) (λ s. omega (arith, syllable-least _ s)))

pub returns-in_default-code-4 : goal.returns-in_default-code-4
returns-in_default-code-4 c = elim c.in_default.branch [
  | in_default-via-then-code-lt44032 w ↦ sym (role-none _ (λ h. omega arith) (λ h. omega arith) (λ h. omega arith) (λ s. omega (arith, syllable-least _ s)))
  | in_default-via-else-code-lt44032+else-code-lt55204 w ↦
      sym (role-none _ (λ h. omega arith) (λ h. omega arith) (λ h. omega arith) (λ s. omega (arith, syllable-most _ s)))
]
