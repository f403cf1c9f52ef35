-- `mending::text::At::advance` meets its contract: what is spelled in letters is the character at the
-- index, or one turn is left to `pass`.
use Rattle.utf8.proofs.Round.{encodes8}
use Rattle.mending.proofs.Turns.{character-fits, character-moved}
use Rattle.mending.proofs.Characters.{character-next}
use Rattle.mending.proofs.text.At.advance.Goals as goal

pub set-requires-clause-fits : goal.set-requires-clause-fits
set-requires-clause-fits c = character-fits encodes8 c.requires
    (character-next encodes8 _ _ c.requires.inside c.in-Some.ensures.value)

pub returns-in-Some : goal.returns-in-Some
returns-in-Some c = character-moved (character-next encodes8 _ _ c.requires.inside c.in-Some.ensures.value)
    c.set.ensures
