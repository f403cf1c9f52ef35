use Rattle.fillers.proofs.Turned.{turned-most, copied-piece, group-piece, group-inside, turned-end}
use Rattle.laws.proofs.Filling.{counting_more, counting-all}
use mathlib.Core.Path.{refl}
use native.Mathlib.Omega.{arith}
use Rattle.fillers.proofs.text.turned_count.Goals as goal
use Rattle.fillers.proofs.text.turned_count.Goals.{in-None, in-Some}

pub overflow_add-count : goal.overflow_add-count
overflow_add-count c = omega (
  arith,
  c.loop-read.invariant.1.sum,
  turned-most c.args.text.now,
)

pub loop-read-preserved : goal.loop-read-preserved
loop-read-preserved c = elim c.match-group_at.branch [
  | in-None w ↦ rw w.read-is (
    omega arith,
    counting_more c.loop-read.invariant.1 (copied-piece _ _ c.loop-read-test.true w.in-None.ensures) refl,
  )
  | in-Some w ↦ rw w.read-is (
    omega (arith, group-inside _ _ c.loop-read-test.true w.in-Some.ensures),
    counting_more c.loop-read.invariant.1 (group-piece _ _ c.loop-read-test.true w.in-Some.ensures) refl,
  )
]

pub returns : goal.returns
returns c = counting-all c.loop-read.invariant.1 (turned-end _ _ c.loop-read-test.false)
