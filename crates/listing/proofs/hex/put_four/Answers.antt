-- `listing::hex::put_four` meets its contract: four stores, each of a digit that was found.
use native.Mathlib.Omega.{arith}
use lib.ListN.{length-set}
use Rattle.laws.proofs.Filling.{wrote-four}
use Rattle.listing.proofs.Digits.{four_is}
use Rattle.listing.proofs.HexWriting.{four-fits}
use Rattle.listing.proofs.hex.put_four.Goals as goal

pub bounds-out-at : goal.bounds-out-at
bounds-out-at c = omega (arith, four-fits _ c.requires)

pub bounds-out-at-2 : goal.bounds-out-at-2
bounds-out-at-2 c = simp length-set (omega (arith, four-fits _ c.requires))

pub bounds-out-at-3 : goal.bounds-out-at-3
bounds-out-at-3 c = simp length-set (omega (arith, four-fits _ c.requires))

pub bounds-out-at-4 : goal.bounds-out-at-4
bounds-out-at-4 c = simp length-set (omega (arith, four-fits _ c.requires))

pub returns : goal.returns
returns c = wrote-four
    (four_is _ c.digit.ensures c.digit-2.ensures c.digit-3.ensures c.digit-4.ensures)
