-- `clusters::simple::letters_of` meets its contract: seven places have room for the letters.
use Rattle.clusters.proofs.SimpleForm.{simple-room}
use mathlib.Core.Path.{refl}
use Rattle.clusters.proofs.simple.letters_of.Goals as goal

pub put_simple-count-requires : goal.put_simple-count-requires
put_simple-count-requires c = simple-room _ _ refl
