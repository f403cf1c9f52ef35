-- `utf8::encode::put_three` meets its contract: three stores, one after the other.
use Rattle.utf8.proofs.Writing.{bytes-three}
use Rattle.laws.proofs.Filling.{wrote-three, room-all}
use native.Mathlib.Omega.{arith}
use lib.ListN.{length-set}
use Rattle.utf8.proofs.encode.put_three.Goals as goal

pub bounds-out-at : goal.bounds-out-at
bounds-out-at c = omega (arith, room-all c.requires.room (bytes-three _ c.requires.le_code c.requires.code_bound))

pub bounds-out-at-2 : goal.bounds-out-at-2
bounds-out-at-2 c = simp length-set (omega (arith, room-all c.requires.room (bytes-three _ c.requires.le_code c.requires.code_bound)))

pub bounds-out-at-3 : goal.bounds-out-at-3
bounds-out-at-3 c = simp length-set (omega (arith, room-all c.requires.room (bytes-three _ c.requires.le_code c.requires.code_bound)))

pub returns : goal.returns
returns c = wrote-three (bytes-three _ c.requires.le_code c.requires.code_bound)
