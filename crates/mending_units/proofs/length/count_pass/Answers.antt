-- `mending_units::length::count_pass` meets its contract: if nothing passes a character is
-- counted, else what passes.
use native.Mathlib.Omega.{arith}
use Rattle.utf16.proofs.Forms.{encodes16}
use Rattle.mending.proofs.Turns.{count_fits, count-character, passes_count, count-passes}
use Rattle.mending.proofs.Characters.{character-next}
use Rattle.mending_units.proofs.length.count_pass.Goals as goal

pub run-end-requires : goal.run-end-requires
run-end-requires c = omega (arith, c.requires.inside)

pub count_place-requires : goal.count_place-requires
count_place-requires c = count_fits c.requires
    (character-next encodes16 _ _ c.requires.inside c.general_at-taken.ensures)

pub returns-then-end-read : goal.returns-then-end-read
returns-then-end-read c = count-character (character-next encodes16 _ _ c.requires.inside c.general_at-taken.ensures)
    c.count_place.ensures

pub overflow_sub-result : goal.overflow_sub-result
overflow_sub-result c = c.run-end.ensures.goes.on

pub overflow_add-result : goal.overflow_add-result
overflow_add-result c = omega (
  arith,
  passes_count c.requires c.run-end.ensures,
)

pub returns : goal.returns
returns c = count-passes c.run-end.ensures c.if-end-read.false
