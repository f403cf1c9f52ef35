-- `mending_units::text::make` meets its contract: each of the three ways answers the character at the
-- index, which is then written.
use Rattle.utf16.proofs.Forms.{encodes16}
use Rattle.mending.proofs.Turns.{character-fits, character-moved}
use Rattle.mending.proofs.Characters.{character-next}
use Rattle.mending_units.proofs.text.make.Goals as goal

pub set-requires-clause-fits_in : goal.set-requires-clause-fits_in
set-requires-clause-fits_in c = character-fits encodes16 c.requires
    (character-next encodes16 _ _ c.requires.inside c.in-Some.ensures.value)

pub returns-in-Some : goal.returns-in-Some
returns-in-Some c = character-moved (character-next encodes16 _ _ c.requires.inside c.in-Some.ensures.value)
    c.set.ensures

pub set-requires-in-Some-letter_at-clause-fits_in : goal.set-requires-in-Some-letter_at-clause-fits_in
set-requires-in-Some-letter_at-clause-fits_in c = character-fits encodes16 c.requires
    (character-next encodes16 _ _ c.requires.inside c.in-Some-letter_at.ensures.value)

pub returns-in-Some-letter_at : goal.returns-in-Some-letter_at
returns-in-Some-letter_at c = character-moved (character-next encodes16 _ _ c.requires.inside c.in-Some-letter_at.ensures.value)
    c.set-in-Some-letter_at.ensures

pub place-requires : goal.place-requires
place-requires c = character-fits encodes16 c.requires
    (character-next encodes16 _ _ c.requires.inside c.general_at-taken.ensures)

pub returns : goal.returns
returns c = character-moved (character-next encodes16 _ _ c.requires.inside c.general_at-taken.ensures)
    c.place.ensures
