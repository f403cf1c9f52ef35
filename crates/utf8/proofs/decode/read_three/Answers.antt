-- `utf8::decode::read_three` meets its contract: the first byte out of range breaks the sequence,
-- or it is whole.
use Rattle.encodings.proofs.Taking.{test-true, test-false, goes_on, broken-taken, whole-taken}
use Rattle.utf8.proofs.Rows.{begun8}
use Rattle.utf8.proofs.Bits.{second-some, three-bits}
use Rattle.encodings.specs.Reading.{good_of}
use mathlib.Core.Path.{◌∙◌, ap}
use native.Mathlib.Omega.{arith}
use Rattle.utf8.proofs.decode.read_three.Goals as goal

pub returns-then-not-is_within : goal.returns-then-not-is_within
returns-then-not-is_within c = broken-taken (begun8 c.requires) c.byte_at-second.ensures (omega arith)
    (test-false c.is_within.ensures c.if-not-is_within.true) c.ill.ensures

pub returns-then-not-is_continuation : goal.returns-then-not-is_continuation
returns-then-not-is_continuation c = broken-taken (goes_on (begun8 c.requires)
    c.byte_at-second.ensures (omega arith) (second-some
    c.requires) (test-true
    c.is_within.ensures c.if-not-is_within.false))
    c.byte_at-third.ensures (omega arith) (test-false c.is_continuation.ensures
    c.if-not-is_continuation.true) c.ill-then-not-is_continuation.ensures

pub returns : goal.returns
returns c = whole-taken (goes_on (begun8 c.requires)
    c.byte_at-second.ensures (omega arith) (second-some
    c.requires) (test-true
    c.is_within.ensures c.if-not-is_within.false))
    c.byte_at-third.ensures (omega arith) (omega arith) (test-true c.is_continuation.ensures
    c.if-not-is_continuation.false) (c.good.ensures ∙ ap (λ v. good_of v 3) (three-bits _ _
    c.requires (test-true
    c.is_within.ensures c.if-not-is_within.false) (test-true
    c.is_continuation.ensures c.if-not-is_continuation.false)))
