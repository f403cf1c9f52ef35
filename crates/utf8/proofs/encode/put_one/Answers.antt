-- `utf8::encode::put_one` meets its contract: one store.
use Rattle.utf8.proofs.Writing.{bytes_one}
use Rattle.laws.proofs.Filling.{wrote_one, room-one}
use Rattle.utf8.proofs.encode.put_one.Goals as goal

pub bounds-out-at : goal.bounds-out-at
bounds-out-at c = room-one c.requires.room (bytes_one _ c.requires.code_bound)

pub returns : goal.returns
returns c = wrote_one (bytes_one _ c.requires.code_bound)
