-- `ranking::text::next_at` meets its contract: a code point alone, or two that join, or three.
use Rattle.joining.proofs.Pairs.{nonzero-none, nonzero-some, nonzero-not}
use mathlib.Core.Path.{refl}
use Rattle.ranking.proofs.Texts.{code-end, code-alone, code-two, code-three}
use Rattle.ranking.proofs.text.next_at.Goals as goal

pub returns-then-text-at : goal.returns-then-text-at
returns-then-text-at c = code-end _ _ c.if-text-at.true c.requires.at_in_bounds c.next_of.ensures

pub returns-in_default : goal.returns-in_default
returns-in_default c = code-alone _ _ c.if-text-at.false c.code.ensures refl
    (nonzero-none _ c.in_default.ensures) c.next_of-in_default.ensures

pub returns-in_default-joined : goal.returns-in_default-joined
returns-in_default-joined c = code-two _ _ c.if-text-at.false c.code.ensures
    (nonzero-some _ c.in-Some.ensures) (nonzero-not _ c.in-Some.ensures) c.code-2.ensures refl
    (nonzero-none _ c.in_default-joined.ensures) c.next_of-in_default-joined.ensures

pub returns : goal.returns
returns c = code-three _ _ c.if-text-at.false c.code.ensures
    (nonzero-some _ c.in-Some.ensures) (nonzero-not _ c.in-Some.ensures) c.code-2.ensures
    (nonzero-some _ c.in-Some-joined.ensures) (nonzero-not _ c.in-Some-joined.ensures) c.next_of-2.ensures
