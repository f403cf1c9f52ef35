use Rattle.labels.proofs.Judging.{faulty-none, faulty-some, judging-none, judging-more, judging-bad, judging-all}
use Rattle.labels.proofs.image.judge_records.Goals as goal

pub loop-number-init : goal.loop-number-init
loop-number-init c = judging-none _

pub returns-in-Some : goal.returns-in-Some
returns-in-Some c = judging-bad _ c.loop-number.invariant c.requires c.loop-number-test.true
    (faulty-some c.fault_at.ensures c.in-Some.is)

pub loop-number-preserved : goal.loop-number-preserved
loop-number-preserved c = judging-more _ c.loop-number.invariant c.loop-number-test.true
    (faulty-none c.fault_at.ensures c.in_default.is)

pub returns : goal.returns
returns c = judging-all _ c.loop-number.invariant c.requires c.loop-number-test.false
