use Rattle.fillers.proofs.Turned.{copied-piece, group-piece, group-inside, written-most, place-left, turned-end}
use Rattle.laws.proofs.Filling.{filling-more, filling-all, wrote_one}
use mathlib.Core.Path.{refl}
use native.Mathlib.Omega.{arith}
use Rattle.fillers.proofs.text.turn_into.Goals as goal
use Rattle.fillers.proofs.text.turn_into.Goals.{in-None, in-Some}

pub bounds-out-written : goal.bounds-out-written
bounds-out-written c = place-left _ _ c.requires
    c.loop-read.invariant.1 c.loop-read-test.true

pub bounds-out-written-in-Some : goal.bounds-out-written-in-Some
bounds-out-written-in-Some c = place-left _ _ c.requires
    c.loop-read.invariant.1 c.loop-read-test.true

pub overflow_add-written : goal.overflow_add-written
overflow_add-written c = omega (arith, written-most _ c.loop-read.invariant.1)

pub loop-read-preserved : goal.loop-read-preserved
loop-read-preserved c = elim c.match-group_at.branch [
  | in-None w ↦ rw (w.read-is, w.out-is) (
    omega arith,
    filling-more c.requires c.loop-read.invariant.1
        (copied-piece _ _ c.loop-read-test.true w.in-None.ensures) (wrote_one refl),
  )
  | in-Some w ↦ rw (w.read-is, w.out-is) (
    omega (arith, group-inside _ _ c.loop-read-test.true w.in-Some.ensures),
    filling-more c.requires c.loop-read.invariant.1
        (group-piece _ _ c.loop-read-test.true w.in-Some.ensures) (wrote_one refl),
  )
]

pub returns : goal.returns
returns c = filling-all c.loop-read.invariant.1 (turned-end _ _ c.loop-read-test.false)
