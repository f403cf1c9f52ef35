use mathlib.Core.Path.{refl, sym}
use Rattle.clusters.proofs.SimpleForm.{simple-each, simple-piece, simple-end, simple-most}
use Rattle.clusters.proofs.Loops.{wrote-size}
use Rattle.laws.proofs.Filling.{counting-begin, counting-fits, counting_more, counting-all}
use native.Mathlib.Omega.{arith}
use Rattle.clusters.proofs.simple.simple_count.Goals as goal

pub loop-code-init : goal.loop-code-init
loop-code-init c = counting-begin (sym (simple-each c.args.text.now))

pub overflow_add-count : goal.overflow_add-count
overflow_add-count c = omega (
  arith,
  counting-fits c.loop-code.invariant (simple-piece _ _ c.loop-code-test.true)
      (wrote-size refl c.letters_of-count.ensures),
  simple-most c.args.text.now,
  c.requires,
)

pub loop-code-preserved : goal.loop-code-preserved
loop-code-preserved c = counting_more c.loop-code.invariant (simple-piece _ _ c.loop-code-test.true)
    (wrote-size refl c.letters_of-count.ensures)

pub returns : goal.returns
returns c = counting-all c.loop-code.invariant (simple-end _ _ c.loop-code-test.false)
