-- `letters::parts::full_parts_of` meets its contract: each return knows whether the number is an
-- LV, an LVT or no syllable.
use Rattle.letters.proofs.Steps.{syllable-yes, syllable-below, syllable-above}
use Rattle.letters.proofs.FullParts.{parts-lv, parts-lvt, parts-other}
use native.Mathlib.Omega.{arith}
use mathlib.Core.Path.{sym}
use Rattle.letters.proofs.parts.full_parts_of.Goals as goal

pub returns-then-last-eq0 : goal.returns-then-last-eq0
returns-then-last-eq0 c = sym (parts-lv 0 _ (syllable-yes _ (omega arith) (omega arith)) c.if-last-eq0.true)

pub returns-else-last-eq0 : goal.returns-else-last-eq0
returns-else-last-eq0 c = sym (parts-lvt 0 _ (syllable-yes _ (omega arith) (omega arith)) c.if-last-eq0.false)

pub returns-in_default : goal.returns-in_default
returns-in_default c = sym (parts-other 2 _ (syllable-below _ (omega arith)))

pub returns-in_default-2 : goal.returns-in_default-2
returns-in_default-2 c = sym (parts-other 2 _ (syllable-above _ (omega arith)))
