-- `mending_units::text::set` meets its contract: the character has room, and its unit is stored.
use Rattle.laws.proofs.Filling.{wrote_one, room-one}
use Rattle.utf16.proofs.Writing.{units-one}
use Rattle.mending.proofs.Turns.{wrote-placed}
use Rattle.mending_units.proofs.text.set.Goals as goal

pub bounds-out-at : goal.bounds-out-at
bounds-out-at c = room-one c.requires.fits_in.room (units-one _ c.requires.code_bound)

pub returns : goal.returns
returns c = wrote-placed (wrote_one (units-one _ c.requires.code_bound))
