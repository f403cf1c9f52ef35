use native.Mathlib.Omega.{arith}
use Rattle.labels.proofs.Images.{taken-count}
use Rattle.sorting.proofs.Placing.{place-inside}
use Rattle.sorting.proofs.Ordering.{ordered-begin, ordered-size, ordered-search, ordered-more, ordered_end}
use Rattle.sorting.proofs.records.order_into.Goals as goal

pub loop-number-init : goal.loop-number-init
loop-number-init c = ordered-begin _ _

pub overflow_cast-number : goal.overflow_cast-number
overflow_cast-number c = omega (arith, c.loop-number-test.true, taken-count _ c.requires.image_value, c.requires.count_value)

pub place_of-at-requires : goal.place_of-at-requires
place_of-at-requires c = ordered-search _ _ (omega arith) c.loop-number.invariant

pub overflow_cast-number-in-loop-number : goal.overflow_cast-number-in-loop-number
overflow_cast-number-in-loop-number c = omega (
  arith,
  c.loop-number-test.true,
  taken-count _ c.requires.image_value,
  c.requires.count_value,
)

pub insert-requires : goal.insert-requires
insert-requires c =
    let size = ordered-size _ _ {n = c.loop-number.number} (omega arith) c.loop-number.invariant in
    record {
      at_le_count = place-inside c.loop-number.out c.loop-number.number (omega (arith, size)) c.place_of-at.ensures;
      count_in_bounds = omega (arith, size);
    }

pub loop-number-preserved : goal.loop-number-preserved
loop-number-preserved c = ordered-more _ _ (omega arith) c.loop-number.invariant c.place_of-at.ensures c.insert.ensures

pub returns : goal.returns
returns c = ordered_end _ _ c.loop-number.invariant (omega arith)
