-- `mending::length::Count::advance` meets its contract: what is spelled in letters is the character
-- at the index, or one turn is left to `pass`.
use Rattle.utf8.proofs.Round.{encodes8}
use Rattle.mending.proofs.Turns.{count_fits, count-character}
use Rattle.mending.proofs.Characters.{character-next}
use Rattle.mending.proofs.length.Count.advance.Goals as goal

pub place-requires : goal.place-requires
place-requires c = count_fits c.requires
    (character-next encodes8 _ _ c.requires.inside c.in-Some.ensures.value)

pub returns-in-Some : goal.returns-in-Some
returns-in-Some c = count-character (character-next encodes8 _ _ c.requires.inside c.in-Some.ensures.value)
    c.place.ensures
