-- `utf8::decode::read_two` meets its contract: the second byte is out of range, or the sequence is
-- whole.
use Rattle.encodings.proofs.Taking.{test-true, test-false, broken-taken, whole-taken}
use Rattle.utf8.proofs.Rows.{begun8}
use Rattle.utf8.proofs.Bits.{two-bits}
use Rattle.encodings.specs.Reading.{good_of}
use mathlib.Core.Path.{◌∙◌, ap}
use native.Mathlib.Omega.{arith}
use Rattle.utf8.proofs.decode.read_two.Goals as goal

pub returns-then-not-is_continuation : goal.returns-then-not-is_continuation
returns-then-not-is_continuation c = broken-taken (begun8 c.requires) c.byte_at-second.ensures (omega arith)
    (test-false c.is_continuation.ensures c.if-not-is_continuation.true) c.ill.ensures

pub returns : goal.returns
returns c = whole-taken (begun8 c.requires) c.byte_at-second.ensures (omega arith)
    (omega arith) (test-true c.is_continuation.ensures c.if-not-is_continuation.false) (c.good.ensures ∙ ap (λ v. good_of v 2)
    (two-bits _ c.requires (test-true c.is_continuation.ensures
    c.if-not-is_continuation.false)))
