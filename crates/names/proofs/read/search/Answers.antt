use mathlib.Core.Path.{sym, ◌∙◌}
use native.Mathlib.Omega.{arith}
use borrow.Author.Count.{below_more}
use Rattle.std.specs.Prelude.{Some}
use Rattle.names.specs.Names.{initials, peaks, finals, prefix as text}
use Rattle.names.specs.Inner.{FinalIs, PeakIs}
use Rattle.names.proofs.Rows.{row_is}
use Rattle.names.proofs.Search.{final-miss, final-there, peak-miss, peak-no_final, peak-there, initial-miss, initial-no_peak, initial-there, prefix-miss, prefix-no_three, prefix-there}
use Rattle.names.proofs.read.search.Goals as goal

pub returns-in_err-rest : goal.returns-in_err-rest
unfolding text
returns-in_err-rest c = rw c.from_residual.ensures (prefix-miss _ c.in_err-rest.ensures.cases)

pub loop-initial-preserved-in_default : goal.loop-initial-preserved-in_default
unfolding initials
loop-initial-preserved-in_default c =
    let row = c.letters.ensures.string ∙ row_is c.initials-row-items.result.now c.loop-initial.initial' c.initials-row-items.ensures.strings _ c.loop-initial-test.true in
    below_more _ _ c.loop-initial.invariant (initial-miss _ c.loop-initial.initial' row c.in_default.ensures)

pub loop-peak-preserved-in_default-after : goal.loop-peak-preserved-in_default-after
unfolding peaks
loop-peak-preserved-in_default-after c =
    let row = c.letters-in-loop-peak.ensures.string ∙ row_is c.peaks-row-items.result.now c.loop-peak.peak c.peaks-row-items.ensures.strings _ c.loop-peak-test.true in
    below_more _ _ c.loop-peak.invariant (peak-miss _ c.loop-peak.peak row c.in_default-after.ensures)

pub loop-last-preserved : goal.loop-last-preserved
unfolding finals
loop-last-preserved c =
    let row = c.letters-in-loop-last.ensures.string ∙ row_is c.finals-row-items.result.now c.loop-last.last c.finals-row-items.ensures.strings _ c.loop-last-test.true in
    below_more _ _ c.loop-last.invariant (final-miss _ c.loop-last.last row (sym c.ends.ensures ∙ c.if-ends.false))

pub loop-peak-preserved : goal.loop-peak-preserved
unfolding peaks
loop-peak-preserved c =
    let row = c.letters-in-loop-peak.ensures.string ∙ row_is c.peaks-row-items.result.now c.loop-peak.peak c.peaks-row-items.ensures.strings _ c.loop-peak-test.true in
    below_more _ _ c.loop-peak.invariant (peak-no_final _ c.loop-peak.peak row c.in-Some-after.ensures (λ f h. c.loop-last.invariant f (omega (arith, c.loop-last-test.false, h))))

pub loop-initial-preserved : goal.loop-initial-preserved
unfolding initials
loop-initial-preserved c =
    let row = c.letters.ensures.string ∙ row_is c.initials-row-items.result.now c.loop-initial.initial' c.initials-row-items.ensures.strings _ c.loop-initial-test.true in
    below_more _ _ c.loop-initial.invariant (initial-no_peak _ c.loop-initial.initial' row c.in-Some.ensures (λ p f h. c.loop-peak.invariant p (omega (arith, c.loop-peak-test.false, h)) f))

pub returns-then-ends : goal.returns-then-ends
unfolding initials peaks finals text
returns-then-ends c =
    let initial = c.letters.ensures.string ∙ row_is c.initials-row-items.result.now c.loop-initial.initial' c.initials-row-items.ensures.strings _ c.loop-initial-test.true in
    let peak = c.letters-in-loop-peak.ensures.string ∙ row_is c.peaks-row-items.result.now c.loop-peak.peak c.peaks-row-items.ensures.strings _ c.loop-peak-test.true in
    let last = c.letters-in-loop-last.ensures.string ∙ row_is c.finals-row-items.result.now c.loop-last.last c.finals-row-items.ensures.strings _ c.loop-last-test.true in
    let cut = c.in_ok-rest.ensures.cases in
    let there : FinalIs c.in-Some-after.rest.now (Some c.loop-last.last) = (c.loop-last-test.true, final-there _ c.loop-last.last last (sym c.ends.ensures ∙ c.if-ends.true)) in
    let two : PeakIs c.in-Some.rest.now (Some (c.loop-peak.peak, c.loop-last.last)) = (c.loop-peak-test.true, c.loop-last-test.true, peak-there _ c.loop-peak.peak peak c.in-Some-after.ensures there) in
    ((omega (arith, c.loop-initial-test.true), omega (arith, c.loop-peak-test.true), omega (arith, c.loop-last-test.true)), prefix-there _ c.loop-initial.initial' _ _ cut.0 cut.1 (initial-there _ c.loop-initial.initial' initial c.in-Some.ensures two))

pub returns-after-loop-initial : goal.returns-after-loop-initial
unfolding text
returns-after-loop-initial c = prefix-no_three _ c.in_ok-rest.ensures.cases.1 (λ i h. c.loop-initial.invariant i (omega (arith, c.loop-initial-test.false, h)))
