use Rattle.clusters.proofs.Loops.{filling-start, gathered-begin, gathered_next, gathered-piece, gathered-last}
use Rattle.laws.proofs.Filling.{filling-room, filling-more, filling-last}
use Rattle.clusters.proofs.gathered.gathered_into.Goals as goal

pub loop-code-init : goal.loop-code-init
loop-code-init c = filling-start _ (gathered-begin _ _ c.new-writer.ensures.result_value) c.new-writer.ensures.at_value

pub put_gathered-writer-requires : goal.put_gathered-writer-requires
put_gathered-writer-requires c = let loop = c.loop-code in filling-room c.requires loop.invariant (gathered_next _ _ loop.writer c.loop-code-test.true)

pub loop-code-preserved : goal.loop-code-preserved
loop-code-preserved c = let loop = c.loop-code in
    let inside = c.loop-code-test.true in
    let put = c.put_gathered-writer.ensures in
    filling-more c.requires loop.invariant (gathered-piece _ _ loop.writer inside put) put.writes

pub put_rest-requires : goal.put_rest-requires
put_rest-requires c = let loop = c.loop-code in filling-room c.requires loop.invariant (gathered-last _ _ loop.writer c.loop-code-test.false)

pub returns : goal.returns
returns c = let loop = c.loop-code in
    let last = gathered-last _ _ loop.writer c.loop-code-test.false in
    filling-last c.requires loop.invariant last c.put_rest.ensures
