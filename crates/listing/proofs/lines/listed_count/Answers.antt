use mathlib.Core.Path.{refl}
use native.Mathlib.Omega.{arith}
use Rattle.listing.proofs.Turns.{tallying-none, place-room, tallying-fits, tallying-more, tallying-all}
use Rattle.utf8.proofs.Round.{encodes8}
use Rattle.mending.proofs.Characters.{character-next}
use Rattle.listing.proofs.lines.listed_count.Goals as goal

pub loop-read-init : goal.loop-read-init
loop-read-init c = tallying-none _ refl

pub slice_bounds-put_line-end : goal.slice_bounds-put_line-end
slice_bounds-put_line-end c = c.loop-read.invariant.place

pub put_line-length-requires : goal.put_line-length-requires
put_line-length-requires c = place-room _ c.loop-read.invariant _

pub overflow_add-length : goal.overflow_add-length
overflow_add-length c = omega (
  arith,
  tallying-fits _ c.loop-read.invariant (character-next encodes8 _ _ c.loop-read-test.true c.character_at-taken.ensures)
      c.put_line-length.ensures c.requires,
)

pub overflow_add-read : goal.overflow_add-read
overflow_add-read c = omega (arith, (character-next encodes8 _ _ c.loop-read-test.true c.character_at-taken.ensures).goes.inside)

pub loop-read-smaller : goal.loop-read-smaller
loop-read-smaller c = let character = character-next encodes8 _ _ c.loop-read-test.true c.character_at-taken.ensures in
    omega (arith, character.goes.inside, character.more)

pub loop-read-preserved : goal.loop-read-preserved
loop-read-preserved c = tallying-more _ c.loop-read.invariant (character-next encodes8 _ _ c.loop-read-test.true c.character_at-taken.ensures)
    c.put_line-length.ensures

pub returns : goal.returns
returns c = tallying-all _ c.loop-read.invariant c.loop-read-test.false
