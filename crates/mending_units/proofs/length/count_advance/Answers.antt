-- `mending_units::length::count_advance` meets its contract: what is spelled in letters is the character
-- at the index, or one turn is left to `count_pass`.
use Rattle.utf16.proofs.Forms.{encodes16}
use Rattle.mending.proofs.Turns.{count_fits, count-character}
use Rattle.mending.proofs.Characters.{character-next}
use Rattle.mending_units.proofs.length.count_advance.Goals as goal

pub count_place-requires : goal.count_place-requires
count_place-requires c = count_fits c.requires
    (character-next encodes16 _ _ c.requires.inside c.in-Some.ensures.value)

pub returns-in-Some : goal.returns-in-Some
returns-in-Some c = count-character (character-next encodes16 _ _ c.requires.inside c.in-Some.ensures.value)
    c.count_place.ensures
