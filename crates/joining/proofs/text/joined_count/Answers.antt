use Rattle.joining.proofs.Stepping.{join-piece, join_last}
use Rattle.joining.proofs.Joins.{join-most}
use native.Mathlib.Omega.{arith}
use Rattle.laws.proofs.Filling.{counting-fits, counting-last}
use Rattle.joining.proofs.text.joined_count.Goals as goal

pub overflow_add-count : goal.overflow_add-count
overflow_add-count c = omega (
  arith,
  counting-fits c.loop-code.invariant (join-piece _ _ _ c.loop-code-test.true c.step-step.ensures) c.count_of-count.ensures,
  join-most c.args.text.now,
  c.requires,
)

pub overflow_add-result : goal.overflow_add-result
overflow_add-result c = omega (
  arith,
  counting-last c.loop-code.invariant (join_last _ _ _ c.loop-code-test.false c.flush.ensures) c.count_of.ensures,
  join-most c.args.text.now,
  c.requires,
)
