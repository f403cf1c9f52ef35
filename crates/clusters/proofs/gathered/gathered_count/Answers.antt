use Rattle.clusters.proofs.Loops.{gathered-begin, gathered-piece, gathered-last, scratch-room, scratch-rest, turned-length, wrote-size}
use Rattle.clusters.proofs.GatheredForm.{gathered-most}
use Rattle.laws.proofs.Filling.{counting-begin, counting-fits, counting-last}
use native.Mathlib.Omega.{arith}
use borrow.Author.Rules.{rules}
use Rattle.clusters.proofs.gathered.gathered_count.Goals as goal

pub loop-code-init : goal.loop-code-init
loop-code-init c = (search rules, c.new-writer.ensures.at_value, counting-begin (gathered-begin _ _ c.new-writer.ensures.result_value))

pub put_gathered-next-requires : goal.put_gathered-next-requires
put_gathered-next-requires c = let loop = c.loop-code in scratch-room loop.writer loop.invariant.0 loop.invariant.1 _

pub overflow_add-total : goal.overflow_add-total
overflow_add-total c = let loop = c.loop-code in
    let put = c.put_gathered-next.ensures in
    omega (
      arith,
      counting-fits loop.invariant.2 (gathered-piece _ _ loop.writer c.loop-code-test.true put) (turned-length loop.invariant.1 put),
      gathered-most c.args.text.now,
      c.requires,
    )

pub put_rest-requires : goal.put_rest-requires
put_rest-requires c = let loop = c.loop-code in scratch-rest loop.writer loop.invariant.0 loop.invariant.1

pub overflow_add-result : goal.overflow_add-result
overflow_add-result c = let loop = c.loop-code in
    let rest = c.put_rest.ensures in
    omega (
      arith,
      counting-last loop.invariant.2 (gathered-last _ _ loop.writer c.loop-code-test.false) (wrote-size loop.invariant.1 rest),
      gathered-most c.args.text.now,
      c.requires,
    )

pub returns : goal.returns
returns c = let loop = c.loop-code in
    let rest = c.put_rest.ensures in
    counting-last loop.invariant.2 (gathered-last _ _ loop.writer c.loop-code-test.false) (wrote-size loop.invariant.1 rest)
