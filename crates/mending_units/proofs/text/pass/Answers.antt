-- `mending_units::text::pass` meets its contract: if nothing passes one character is left to
-- `make`, else what passes is copied.
use native.Mathlib.Omega.{arith}
use Rattle.mending.proofs.Turns.{passes-room, passes-moved}
use Rattle.mending_units.proofs.text.pass.Goals as goal

pub run-end-requires : goal.run-end-requires
run-end-requires c = omega (arith, c.requires.inside)

pub make-requires : goal.make-requires
make-requires c = c.requires

pub returns-then-end-read : goal.returns-then-end-read
returns-then-end-read c = c.make.ensures

pub copy-written-requires : goal.copy-written-requires
copy-written-requires c = record { from_le_to = c.run-end.ensures.goes.on; to_in_bounds = c.run-end.ensures.goes.inside; from_in_bounds = passes-room c.requires c.run-end.ensures }

pub returns : goal.returns
returns c = passes-moved c.run-end.ensures c.if-end-read.false
    c.copy-written.ensures
