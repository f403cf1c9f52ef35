-- `clusters::gathered::Writer::put_gathered` meets its contract: the letters by value are those of the code
-- point.
use Rattle.clusters.proofs.Writing.{letters-fit, letters-taken, room-taken, turned_taken}
use Rattle.clusters.proofs.SimpleForm.{simple-of-most}
use Rattle.clusters.proofs.gathered.Writer.put_gathered.Goals as goal

pub shared_ref_as_front-put_letters : goal.shared_ref_as_front-put_letters
shared_ref_as_front-put_letters c = letters-fit (simple-of-most _) c.letters_of-letters.ensures

pub put_letters-requires : goal.put_letters-requires
put_letters-requires c = room-taken c.args.self (letters-taken (simple-of-most _) c.letters_of-letters.ensures) c.requires

pub returns : goal.returns
returns c = turned_taken (letters-taken (simple-of-most _) c.letters_of-letters.ensures) c.put_letters.ensures
