-- `fillers::group::group_at` meets its contract: one of the four does not fit, or all fit and the
-- sum is the syllable.
use mathlib.Core.Path.{refl, ◌∙◌}
use Rattle.fillers.proofs.Fours.{short-here, no-group-here, group-here}
use Rattle.fillers.proofs.Letters.{as_answer-some, as_answer-none, initial-most, peak-most, final-most}
use Rattle.fillers.specs.Groups.{as_initial, as_peak, as_final}
use native.Mathlib.Omega.{arith}
use Rattle.fillers.proofs.group.group_at.Goals as goal

pub returns-then-text-at : goal.returns-then-text-at
returns-then-text-at c = short-here c.args.text.now c.args.at (omega (arith, c.if-text-at.true))

pub returns-then-text-at-lt4 : goal.returns-then-text-at-lt4
returns-then-text-at-lt4 c = short-here c.args.text.now c.args.at c.if-text-at-lt4.true

pub returns-then-text-at-ne12644 : goal.returns-then-text-at-ne12644
returns-then-text-at-ne12644 c = no-group-here c.args.text.now c.args.at c.if-text-at-lt4.false
    (λ s g. c.if-text-at-ne12644.true g.filler)

pub returns-in_err-initial : goal.returns-in_err-initial
returns-in_err-initial c = c.from_residual.ensures ∙ no-group-here c.args.text.now c.args.at c.if-text-at-lt4.false
    (λ s g. as_answer-none (as_initial _) c.in_err-initial.ensures g.first)

pub returns-in_err-peak : goal.returns-in_err-peak
returns-in_err-peak c = c.from_residual-in_err-peak.ensures ∙ no-group-here c.args.text.now c.args.at c.if-text-at-lt4.false
    (λ s g. as_answer-none (as_peak _) c.in_err-peak.ensures g.peak)

pub returns-in_err-last : goal.returns-in_err-last
returns-in_err-last c = c.from_residual-in_err-last.ensures ∙ no-group-here c.args.text.now c.args.at c.if-text-at-lt4.false
    (λ s g. as_answer-none (as_final _) c.in_err-last.ensures g.last)

pub overflow_mul-result : goal.overflow_mul-result
overflow_mul-result c = omega (arith, initial-most _ c.in_ok-initial.ensures)

pub overflow_add-result : goal.overflow_add-result
overflow_add-result c = omega (arith, initial-most _ c.in_ok-initial.ensures)

pub overflow_mul-result-2 : goal.overflow_mul-result-2
overflow_mul-result-2 c = omega (arith, peak-most _ c.in_ok-peak.ensures)

pub overflow_add-result-2 : goal.overflow_add-result-2
overflow_add-result-2 c = omega (arith, initial-most _ c.in_ok-initial.ensures, peak-most _ c.in_ok-peak.ensures)

pub overflow_add-result-3 : goal.overflow_add-result-3
overflow_add-result-3 c = omega (
  arith,
  initial-most _ c.in_ok-initial.ensures,
  peak-most _ c.in_ok-peak.ensures,
  final-most _ c.in_ok-last.ensures,
)

pub returns : goal.returns
returns c = group-here c.args.text.now c.args.at c.if-text-at-lt4.false (record {
  filler = c.if-text-at-ne12644.false;
  i = _;
  p = _;
  f = _;
  first = as_answer-some (as_initial _) c.in_ok-initial.ensures;
  peak = as_answer-some (as_peak _) c.in_ok-peak.ensures;
  last = as_answer-some (as_final _) c.in_ok-last.ensures;
  makes = refl;
})
