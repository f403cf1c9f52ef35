-- `clusters::simple::put_simple` meets its contract: the letters of one part, of two or of three,
-- one after the other.
use Rattle.clusters.proofs.SimpleForm.{simple-two, simple-three, two-rows, room-one-part, wrote-one-part}
use Rattle.laws.proofs.Filling.{room-first, room-second, wrote-two}
use Rattle.clusters.proofs.simple.put_simple.Goals as goal

pub put_part-requires : goal.put_part-requires
put_part-requires c = room-one-part _ c.full_parts_of-parts.ensures c.in-One.is c.requires

pub put_part-next-requires : goal.put_part-next-requires
put_part-next-requires c = room-first c.requires (simple-two _ c.full_parts_of-parts.ensures c.in-Two.is)

pub put_part-requires-in-Two : goal.put_part-requires-in-Two
put_part-requires-in-Two c = room-second c.requires (simple-two _ c.full_parts_of-parts.ensures c.in-Two.is) c.put_part-next.ensures

pub put_part-next-requires-in-Three : goal.put_part-next-requires-in-Three
put_part-next-requires-in-Three c = room-first c.requires (simple-three _ c.full_parts_of-parts.ensures c.in-Three.is)

pub put_part-last-requires : goal.put_part-last-requires
put_part-last-requires c = let three = simple-three _ c.full_parts_of-parts.ensures c.in-Three.is in room-first (room-second c.requires three c.put_part-next-in-Three.ensures) (two-rows _ _)

pub put_part-requires-in-Three : goal.put_part-requires-in-Three
put_part-requires-in-Three c = let three = simple-three _ c.full_parts_of-parts.ensures c.in-Three.is in room-second (room-second c.requires three c.put_part-next-in-Three.ensures) (two-rows _ _) c.put_part-last.ensures

pub returns-in-One : goal.returns-in-One
returns-in-One c = wrote-one-part _ c.full_parts_of-parts.ensures c.in-One.is c.put_part.ensures

pub returns-in-Two : goal.returns-in-Two
returns-in-Two c = wrote-two (simple-two _ c.full_parts_of-parts.ensures c.in-Two.is) c.put_part-next.ensures
    c.put_part-in-Two.ensures

pub returns-in-Three : goal.returns-in-Three
returns-in-Three c = wrote-two (simple-three _ c.full_parts_of-parts.ensures c.in-Three.is) c.put_part-next-in-Three.ensures
    (wrote-two (two-rows _ _) c.put_part-last.ensures c.put_part-in-Three.ensures)
