-- `utf8::encode::put_four` meets its contract: four stores, one after the other.
use Rattle.utf8.proofs.Writing.{bytes-four}
use Rattle.laws.proofs.Filling.{wrote-four, room-all}
use native.Mathlib.Omega.{arith}
use lib.ListN.{length-set}
use Rattle.utf8.proofs.encode.put_four.Goals as goal

pub bounds-out-at : goal.bounds-out-at
bounds-out-at c = omega (arith, room-all c.requires.room (bytes-four _ c.requires.le_code))

pub bounds-out-at-2 : goal.bounds-out-at-2
bounds-out-at-2 c = simp length-set (omega (arith, room-all c.requires.room (bytes-four _ c.requires.le_code)))

pub bounds-out-at-3 : goal.bounds-out-at-3
bounds-out-at-3 c = simp length-set (omega (arith, room-all c.requires.room (bytes-four _ c.requires.le_code)))

pub bounds-out-at-4 : goal.bounds-out-at-4
bounds-out-at-4 c = simp length-set (omega (arith, room-all c.requires.room (bytes-four _ c.requires.le_code)))

pub returns : goal.returns
returns c = wrote-four (bytes-four _ c.requires.le_code)
