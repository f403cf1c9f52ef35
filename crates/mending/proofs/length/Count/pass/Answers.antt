-- `mending::length::Count::pass` meets its contract: where nothing passes a character is counted,
-- else what passes.
use native.Mathlib.Omega.{arith}
use Rattle.utf8.proofs.Round.{encodes8}
use Rattle.mending.proofs.Turns.{count_fits, count-character, passes_count, count-passes}
use Rattle.mending.proofs.Characters.{character-next}
use Rattle.mending.proofs.length.Count.pass.Goals as goal

pub place-requires : goal.place-requires
place-requires c = count_fits c.requires
    (character-next encodes8 _ _ c.requires.inside c.general_at-taken.ensures)

pub returns-then-end-read : goal.returns-then-end-read
returns-then-end-read c = count-character (character-next encodes8 _ _ c.requires.inside c.general_at-taken.ensures)
    c.place.ensures

pub overflow_add-result : goal.overflow_add-result
overflow_add-result c = omega (
  arith,
  passes_count c.requires c.run-end.ensures,
)

pub returns : goal.returns
returns c = count-passes c.run-end.ensures c.if-end-read.false
