-- `utf16::encode::put` meets its contract: one store, or two, one after the other.
use native.Mathlib.Omega.{arith}
use lib.ListN.{length-set}
use Rattle.laws.proofs.Filling.{wrote_one, wrote-pair, room-one, room-all}
use Rattle.utf16.proofs.Writing.{units-one, units-two}
use Rattle.utf16.proofs.encode.put.Goals as goal

pub bounds-out-at : goal.bounds-out-at
bounds-out-at c = room-one c.requires.room (units-one _ (omega arith))

pub returns-then-code-lt65536 : goal.returns-then-code-lt65536
returns-then-code-lt65536 c = wrote_one (units-one _ (omega arith))

pub bounds-out-at-2 : goal.bounds-out-at-2
bounds-out-at-2 c = omega (arith, room-all c.requires.room (units-two _ (omega arith)))

pub bounds-out-at-3 : goal.bounds-out-at-3
bounds-out-at-3 c = simp length-set (omega (arith, room-all c.requires.room (units-two _ (omega arith))))

pub returns : goal.returns
returns c = wrote-pair (units-two _ (omega arith))
