-- `utf8::encode::put_two` meets its contract: two stores, one after the other.
use Rattle.utf8.proofs.Writing.{bytes-two}
use Rattle.laws.proofs.Filling.{wrote-pair, room-all}
use native.Mathlib.Omega.{arith}
use lib.ListN.{length-set}
use Rattle.utf8.proofs.encode.put_two.Goals as goal

pub bounds-out-at : goal.bounds-out-at
bounds-out-at c = omega (arith, room-all c.requires.room (bytes-two _ c.requires.le_code c.requires.code_bound))

pub bounds-out-at-2 : goal.bounds-out-at-2
bounds-out-at-2 c = simp length-set (omega (arith, room-all c.requires.room (bytes-two _ c.requires.le_code c.requires.code_bound)))

pub returns : goal.returns
returns c = wrote-pair (bytes-two _ c.requires.le_code c.requires.code_bound)
