-- `mending::text::At::set` meets its contract: the character has room, and its three bytes are stored
-- one after the other.
use Rattle.utf8.proofs.Writing.{bytes-three}
use Rattle.laws.proofs.Filling.{wrote-three, room-all}
use lib.ListN.{length-set}
use native.Mathlib.Omega.{arith}
use Rattle.mending.proofs.Turns.{wrote-placed}
use Rattle.mending.proofs.text.At.set.Goals as goal

pub bounds-out-at : goal.bounds-out-at
bounds-out-at c = omega (arith, room-all c.requires.fits.room (bytes-three _ c.requires.triple.least c.requires.triple.most))

pub bounds-out-at-2 : goal.bounds-out-at-2
bounds-out-at-2 c = simp length-set (omega (arith, room-all c.requires.fits.room (bytes-three _ c.requires.triple.least c.requires.triple.most)))

pub bounds-out-at-3 : goal.bounds-out-at-3
bounds-out-at-3 c = simp length-set (omega (arith, room-all c.requires.fits.room (bytes-three _ c.requires.triple.least c.requires.triple.most)))

pub returns : goal.returns
returns c = wrote-placed (wrote-three (bytes-three _ c.requires.triple.least c.requires.triple.most))
