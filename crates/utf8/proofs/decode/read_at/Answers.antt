-- `utf8::decode::read_at` meets its contract: each arm's bounds have one row of the table.
use native.Mathlib.Omega.{arith}
use mathlib.Core.Path.{refl}
use Rattle.encodings.proofs.Rows.{row-between, row-full, row-bad}
use Rattle.encodings.proofs.Taking.{begins-between, end-taken, one-taken, none-taken}
use Rattle.utf8.specs.Utf8.{form8}
use Rattle.utf8.specs.Table37.{table37}
use Rattle.utf8.proofs.Rows.{row-over}
use Rattle.utf8.proofs.decode.read_at.Goals as goal
use Rattle.utf8.proofs.decode.read_at.Goals.{in_default-via-then-first-lt194, in_default-via-else-first-lt194+else-first-lt224+else-first-lt237+else-first-lt240+else-first-lt244}

pub returns-then-text-at : goal.returns-then-text-at
returns-then-text-at c = end-taken form8 _ _ c.if-text-at.true c.good.ensures

pub overflow_cast-first : goal.overflow_cast-first
overflow_cast-first c = omega (arith, c.shared_slice_known-2-1.given c.args.at)

pub read_three-requires : goal.read_three-requires
read_three-requires c = begins-between table37 0xE0 0xE0 tt c.if-text-at.false refl (omega (arith, c.in-224.is)) (omega (arith, c.in-224.is))
    (omega arith) (omega arith)

pub read_three-requires-in-237 : goal.read_three-requires-in-237
read_three-requires-in-237 c = begins-between table37 0xED 0xED tt c.if-text-at.false refl (omega (arith, c.in-237.is)) (omega (arith, c.in-237.is))
    (omega arith) (omega arith)

pub read_four-requires : goal.read_four-requires
read_four-requires c = begins-between table37 0xF0 0xF0 tt c.if-text-at.false refl (omega (arith, c.in-240.is)) (omega (arith, c.in-240.is))
    (omega arith) (omega arith)

pub read_four-requires-in-244 : goal.read_four-requires-in-244
read_four-requires-in-244 c = begins-between table37 0xF4 0xF4 tt c.if-text-at.false refl (omega (arith, c.in-244.is)) (omega (arith, c.in-244.is))
    (omega arith) (omega arith)

pub read_two-requires : goal.read_two-requires
read_two-requires c = begins-between table37 0xC2 0xDF tt c.if-text-at.false refl (omega arith)
    (omega arith) (omega arith) (omega arith)

pub read_three-requires-in-225-to-236 : goal.read_three-requires-in-225-to-236
read_three-requires-in-225-to-236 c = begins-between table37 0xE1 0xEC tt c.if-text-at.false refl
    (omega arith) (omega arith)
    (omega arith) (omega arith)

pub read_three-requires-in-238-to-239 : goal.read_three-requires-in-238-to-239
read_three-requires-in-238-to-239 c = begins-between table37 0xEE 0xEF tt c.if-text-at.false refl
    (omega arith) (omega arith)
    (omega arith) (omega arith)

pub read_four-requires-in-241-to-243 : goal.read_four-requires-in-241-to-243
read_four-requires-in-241-to-243 c = begins-between table37 0xF1 0xF3 tt c.if-text-at.false refl
    (omega arith) (omega arith)
    (omega arith) (omega arith)

pub returns-in-224 : goal.returns-in-224
returns-in-224 c = c.read_three.ensures

pub returns-in-237 : goal.returns-in-237
returns-in-237 c = c.read_three-in-237.ensures

pub returns-in-240 : goal.returns-in-240
returns-in-240 c = c.read_four.ensures

pub returns-in-244 : goal.returns-in-244
returns-in-244 c = c.read_four-in-244.ensures

pub returns-in-0-to-127 : goal.returns-in-0-to-127
returns-in-0-to-127 c = one-taken form8 _ _ c.if-text-at.false refl
    (row-full table37 _ (row-between table37 0x00 0x7F tt (omega arith) (omega arith))) c.good-in-0-to-127.ensures

pub returns-in-194-to-223 : goal.returns-in-194-to-223
returns-in-194-to-223 c = c.read_two.ensures

pub returns-in-225-to-236 : goal.returns-in-225-to-236
returns-in-225-to-236 c = c.read_three-in-225-to-236.ensures

pub returns-in-238-to-239 : goal.returns-in-238-to-239
returns-in-238-to-239 c = c.read_three-in-238-to-239.ensures

pub returns-in-241-to-243 : goal.returns-in-241-to-243
returns-in-241-to-243 c = c.read_four-in-241-to-243.ensures

pub returns-in_default : goal.returns-in_default
returns-in_default c =
    elim c.in_default.branch [
      | in_default-via-then-first-lt194 w ↦
          none-taken form8 _ _ c.if-text-at.false refl (row-bad table37 _ (row-between table37 0x80 0xC1 tt (omega arith) (omega arith))) c.ill.ensures
      | in_default-via-else-first-lt194+else-first-lt224+else-first-lt237+else-first-lt240+else-first-lt244 w ↦
          none-taken form8 _ _ c.if-text-at.false refl (row-bad table37 _ (row-over (omega arith))) c.ill.ensures
    ]
