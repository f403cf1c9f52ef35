-- `mending::lone::ill_size` meets its contract: a byte that begins nothing, or a second or third
-- byte that continues nothing.
use mathlib.Core.Path.{refl}
use native.Mathlib.Omega.{arith}
use Rattle.encodings.proofs.Taking.{test-true, test-false}
use Rattle.mending.proofs.Alone.{stray-character, second-character, third-character}
use Rattle.mending.proofs.lone.ill_size.Goals as goal

pub returns-in-128-to-193 : goal.returns-in-128-to-193
returns-in-128-to-193 c = stray-character c.args.text.now c.args.at refl (omega arith) (omega arith)

pub returns-in-225-to-239 : goal.returns-in-225-to-239
returns-in-225-to-239 c = second-character c.args.text.now c.args.at refl (omega arith) (omega arith)
    c.byte_at.ensures (test-false c.is_continuation.ensures c.if-not-is_continuation.true)

pub returns-in-225-to-239-2 : goal.returns-in-225-to-239-2
returns-in-225-to-239-2 c = third-character c.args.text.now c.args.at refl (omega arith) (omega arith)
    c.byte_at.ensures (λ e. omega (arith, e)) (test-true c.is_continuation.ensures c.if-not-is_continuation.false)
    c.byte_at-then-first-lt240-2.ensures (test-false c.is_continuation-then-first-lt240-2.ensures c.if-not-is_continuation-2.true)
