use mathlib.Core.Path.{◌≡◌, sym, ◌∙◌}
use native.Mathlib.Omega.{arith}
use lib.ListN.{length}
use Rattle.answers.specs.Checks.{bad}
use Rattle.laws.proofs.Lists.{first_next, first-here, first-end}
use Rattle.answers.proofs.check.first_bad.Goals as goal

pub returns-then-is_bad : goal.returns-then-is_bad
returns-then-is_bad c = first-here bad 0 _ _ _ c.loop-i-test.true (sym c.is_bad.ensures ∙ c.if-is_bad.true)
    c.loop-i.invariant

pub loop-i-preserved : goal.loop-i-preserved
loop-i-preserved c = first_next bad 0 _ _ _ c.loop-i-test.true (sym c.is_bad.ensures ∙ c.if-is_bad.false)
    c.loop-i.invariant

pub returns : goal.returns
returns c =
    let end : length c.args.text.now ≡ c.loop-i.i = omega (arith, c.loop-i-test.false) in
    end ∙ first-end bad 0 _ _ _ c.loop-i-test.false c.loop-i.invariant
