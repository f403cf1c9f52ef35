use Rattle.joining.proofs.Stepping.{join-piece, join_last}
use Rattle.laws.proofs.Filling.{filling-room, filling-more, filling-last, wrote-all}
use Rattle.joining.proofs.text.write_joined.Goals as goal

pub loop-code-preserved : goal.loop-code-preserved
loop-code-preserved c =
    let room = c.requires in
    let before = c.loop-code.invariant in
    let piece = join-piece _ _ _ c.loop-code-test.true c.step-step.ensures in
    filling-more room before piece (wrote-all (filling-room room before piece) c.put-at.ensures)

pub returns : goal.returns
returns c =
    let room = c.requires in
    let before = c.loop-code.invariant in
    let last = join_last _ _ _ c.loop-code-test.false c.flush.ensures in
    filling-last room before last (wrote-all (filling-room room before last) c.put.ensures)
