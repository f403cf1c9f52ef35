-- `mending_units::text::advance` meets its contract: what is spelled in letters is the character at the
-- index, or one turn is left to `pass`.
use Rattle.utf16.proofs.Forms.{encodes16}
use Rattle.mending.proofs.Turns.{character-fits, character-moved}
use Rattle.mending.proofs.Characters.{character-next}
use Rattle.mending_units.proofs.text.advance.Goals as goal

pub set-requires-clause-fits_in : goal.set-requires-clause-fits_in
set-requires-clause-fits_in c = character-fits encodes16 c.requires
    (character-next encodes16 _ _ c.requires.inside c.in-Some.ensures.value)

pub returns-in-Some : goal.returns-in-Some
returns-in-Some c = character-moved (character-next encodes16 _ _ c.requires.inside c.in-Some.ensures.value)
    c.set.ensures
