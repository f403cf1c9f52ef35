use native.Mathlib.Omega.{arith}
use Rattle.laws.proofs.Filling.{filling-length}
use Rattle.listing.proofs.Turns.{writing-none, line-room, writing_more, writing-all}
use Rattle.utf8.proofs.Round.{encodes8}
use Rattle.mending.proofs.Characters.{character-next}
use Rattle.listing.proofs.lines.list_into.Goals as goal

pub loop-read-init : goal.loop-read-init
loop-read-init c = writing-none _

pub put_line-written-requires : goal.put_line-written-requires
put_line-written-requires c = line-room _ c.loop-read.invariant c.requires.text_in_bounds
    (character-next encodes8 _ _ c.loop-read-test.true c.character_at-taken.ensures)

pub overflow_add-read : goal.overflow_add-read
overflow_add-read c = omega (arith, (character-next encodes8 _ _ c.loop-read-test.true c.character_at-taken.ensures).goes.inside)

pub loop-read-smaller : goal.loop-read-smaller
loop-read-smaller c = let character = character-next encodes8 _ _ c.loop-read-test.true c.character_at-taken.ensures in
    omega (arith, character.goes.inside, character.more)

pub loop-read-preserved : goal.loop-read-preserved
loop-read-preserved c = writing_more _ c.loop-read.invariant c.requires.text_in_bounds
    (character-next encodes8 _ _ c.loop-read-test.true c.character_at-taken.ensures) c.put_line-written.ensures

pub shape_of-out : goal.shape_of-out
shape_of-out c = filling-length c.requires.text_in_bounds c.loop-read.invariant.filling

pub returns : goal.returns
returns c = writing-all _ c.loop-read.invariant c.loop-read-test.false
