-- `mending::text::At::make` meets its contract: each of the three ways answers the character at the
-- index, which is then written.
use Rattle.utf8.proofs.Round.{encodes8}
use Rattle.mending.proofs.Turns.{character-fits, character-moved}
use Rattle.mending.proofs.Characters.{character-next}
use Rattle.mending.proofs.text.At.make.Goals as goal

pub set-requires-clause-fits : goal.set-requires-clause-fits
set-requires-clause-fits c = character-fits encodes8 c.requires
    (character-next encodes8 _ _ c.requires.inside c.in-Some.ensures.value)

pub returns-in-Some : goal.returns-in-Some
returns-in-Some c = character-moved (character-next encodes8 _ _ c.requires.inside c.in-Some.ensures.value)
    c.set.ensures

pub set-requires-in-Some-letter_at-clause-fits : goal.set-requires-in-Some-letter_at-clause-fits
set-requires-in-Some-letter_at-clause-fits c = character-fits encodes8 c.requires
    (character-next encodes8 _ _ c.requires.inside c.in-Some-letter_at.ensures.value)

pub returns-in-Some-letter_at : goal.returns-in-Some-letter_at
returns-in-Some-letter_at c = character-moved (character-next encodes8 _ _ c.requires.inside c.in-Some-letter_at.ensures.value)
    c.set-in-Some-letter_at.ensures

pub place-requires : goal.place-requires
place-requires c = character-fits encodes8 c.requires
    (character-next encodes8 _ _ c.requires.inside c.general_at-taken.ensures)

pub returns : goal.returns
returns c = character-moved (character-next encodes8 _ _ c.requires.inside c.general_at-taken.ensures)
    c.place.ensures
