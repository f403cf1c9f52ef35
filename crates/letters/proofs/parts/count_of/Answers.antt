-- `letters::parts::count_of` meets its contract: each return knows whether the number is an LV, an
-- LVT or no syllable.
use Rattle.letters.proofs.FullParts.{count-lv, count-lvt, count-other}
use Rattle.letters.proofs.Steps.{syllable-below, syllable-above}
use native.Mathlib.Omega.{arith}
use Rattle.letters.proofs.parts.count_of.Goals as goal

pub returns-then-code-eq0-clause-is : goal.returns-then-code-eq0-clause-is
returns-then-code-eq0-clause-is c = count-lv _ (omega arith) (omega arith) c.if-code-eq0.true

pub returns-else-code-eq0-clause-is : goal.returns-else-code-eq0-clause-is
returns-else-code-eq0-clause-is c = count-lvt _ (omega arith) (omega arith) c.if-code-eq0.false

pub returns-in_default-clause-is : goal.returns-in_default-clause-is
returns-in_default-clause-is c = count-other _ (syllable-below _ (omega arith))

pub returns-in_default-2-clause-is : goal.returns-in_default-2-clause-is
returns-in_default-2-clause-is c = count-other _ (syllable-above _ (omega arith))
