use Rattle.letters.proofs.FullParts.{parts-some, parts_none, parts-one, parts-two}
use Rattle.laws.proofs.Filling.{wrote_one, wrote-two, room-one, room-first, room-second}
use Rattle.std.proofs.Common.{arith}
use Rattle.letters.proofs.parts.+take_apart.Goals as goal

pub bounds-out-at : goal.bounds-out-at
bounds-out-at t c = omega (arith, c.requires.fits, parts-some c.args.depth c.args.code)

pub returns-then-depth-eq0 : goal.returns-then-depth-eq0
returns-then-depth-eq0 t c = wrote_one (parts_none _ _ c.if-depth-eq0.true)

pub bounds-out-at-in-One : goal.bounds-out-at-in-One
bounds-out-at-in-One t c = room-one c.requires (parts-one _ _ c.parts_of-parts.ensures c.in-One.is)

pub take_apart-next-requires : goal.take_apart-next-requires
take_apart-next-requires t c = (
  omega arith,
  room-first c.requires (parts-two _ _ c.if-depth-eq0.false c.parts_of-parts.ensures c.in-Two.is),
)

pub take_apart-requires : goal.take_apart-requires
take_apart-requires t c = (
  omega arith,
  room-second c.requires (parts-two _ _ c.if-depth-eq0.false c.parts_of-parts.ensures c.in-Two.is) c.take_apart-next.ensures,
)

pub returns-in-One : goal.returns-in-One
returns-in-One t c = wrote_one (parts-one _ _ c.parts_of-parts.ensures c.in-One.is)

pub returns-in-Two : goal.returns-in-Two
returns-in-Two t c =
    wrote-two (parts-two _ _ c.if-depth-eq0.false c.parts_of-parts.ensures c.in-Two.is) c.take_apart-next.ensures c.take_apart.ensures
