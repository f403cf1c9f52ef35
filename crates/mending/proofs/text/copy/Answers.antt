use native.Mathlib.Omega.{arith}
use Rattle.mending.proofs.Turns.{copying-none, copying-length, copying-room, copying-more, copying-all}
use borrow.Author.Rules.{rules}
use Rattle.mending.proofs.text.copy.Goals as goal

pub loop-read-init : goal.loop-read-init
loop-read-init c = (search rules, search rules, copying-none _)

pub bounds-out-written : goal.bounds-out-written
bounds-out-written c = let loop = c.loop-read.invariant in
    copying-room _ loop.2 loop.0 c.loop-read-test.true c.requires.to_in_bounds c.requires.from_in_bounds

pub overflow_add-written : goal.overflow_add-written
overflow_add-written c = let loop = c.loop-read.invariant in
    omega (arith, copying-length _ loop.2, copying-room _ loop.2 loop.0 c.loop-read-test.true c.requires.to_in_bounds c.requires.from_in_bounds)

pub loop-read-preserved : goal.loop-read-preserved
loop-read-preserved c = (
  search rules,
  search rules,
  copying-more _ c.loop-read.invariant.2
      (omega (arith, c.loop-read-test.true, c.requires.to_in_bounds)),
)

pub shape_of-out : goal.shape_of-out
shape_of-out c = copying-length _ c.loop-read.invariant.2

pub returns : goal.returns
returns c = copying-all _ c.loop-read.invariant.2 c.loop-read.invariant.1 c.loop-read-test.false
