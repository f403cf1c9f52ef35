use Rattle.sorting.proofs.Decimals.{decimal-some}
use Rattle.sorting.proofs.Backing.{backing-none, backing-length, backing-room, backing-place, backing-more, backing-all}
use lib.ListN.{length-set}
use native.Mathlib.Omega.{arith}
use Rattle.sorting.proofs.decimal.put_decimal.Goals as goal

pub overflow_add-end : goal.overflow_add-end
overflow_add-end c = omega (arith, c.decimal_size.ensures, c.requires.fits, c.well_formed)

pub overflow_sub-next : goal.overflow_sub-next
overflow_sub-next c = omega (arith, c.decimal_size.ensures, decimal-some c.args.number)

pub loop-rest-init : goal.loop-rest-init
loop-rest-init c = backing-none _ _ (omega (arith, c.decimal_size.ensures))

pub bounds-out-next : goal.bounds-out-next
bounds-out-next c = backing-room c.loop-rest.invariant c.requires

pub overflow_sub-next-in-loop-rest : goal.overflow_sub-next-in-loop-rest
overflow_sub-next-in-loop-rest c = backing-place c.loop-rest.invariant c.loop-rest-test.true

pub loop-rest-smaller : goal.loop-rest-smaller
loop-rest-smaller c = omega (arith, c.loop-rest-test.true)

pub loop-rest-preserved : goal.loop-rest-preserved
loop-rest-preserved c = rw c.digit.ensures (backing-more c.loop-rest.invariant c.loop-rest-test.true)

pub bounds-out-next-2 : goal.bounds-out-next-2
bounds-out-next-2 c = backing-room c.loop-rest.invariant c.requires

pub shape_of-out : goal.shape_of-out
shape_of-out c = simp length-set (backing-length c.loop-rest.invariant)

pub returns : goal.returns
returns c = rw c.digit-2.ensures (backing-all c.loop-rest.invariant (omega (arith, c.decimal_size.ensures))
    (omega (arith, c.loop-rest-test.false)))
