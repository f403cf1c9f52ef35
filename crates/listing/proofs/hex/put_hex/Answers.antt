-- `listing::hex::put_hex` meets its contract: no digit, one or two before the last four, by how
-- large the code is.
use mathlib.Core.Path.{refl}
use native.Mathlib.Omega.{arith}
use lib.ListN.{length-set}
use Rattle.laws.proofs.Filling.{wrote_none, wrote_one, wrote-pair, wrote-two, wrote-length, room-one, room-pair, room-first, room-second}
use Rattle.listing.proofs.HexWriting.{four-piece, five-piece, six-piece}
use Rattle.listing.proofs.hex.put_hex.Goals as goal

pub put_four-requires : goal.put_four-requires
put_four-requires c = room-second c.requires (four-piece _ c.if-code-lt65536.true) (wrote_none refl)

pub returns-then-code-lt65536 : goal.returns-then-code-lt65536
returns-then-code-lt65536 c = wrote-two (four-piece _ c.if-code-lt65536.true) (wrote_none refl) c.put_four.ensures

pub bounds-out-at : goal.bounds-out-at
bounds-out-at c = let five = five-piece _ c.if-code-lt65536.false c.if-code-lt1048576.true c.digit.ensures in
    room-one (room-first c.requires five) refl

pub put_four-requires-then-code-lt1048576 : goal.put_four-requires-then-code-lt1048576
put_four-requires-then-code-lt1048576 c = room-second c.requires
    (five-piece _ c.if-code-lt65536.false c.if-code-lt1048576.true c.digit.ensures) (wrote_one refl)

pub returns-then-code-lt1048576 : goal.returns-then-code-lt1048576
returns-then-code-lt1048576 c = wrote-two (five-piece _ c.if-code-lt65536.false c.if-code-lt1048576.true c.digit.ensures) (wrote_one refl)
    c.put_four-then-code-lt1048576.ensures

pub shape_of-out-then-code-lt1048576 : goal.shape_of-out-then-code-lt1048576
shape_of-out-then-code-lt1048576 c = wrote-length (wrote-two (five-piece _ c.if-code-lt65536.false c.if-code-lt1048576.true c.digit.ensures) (wrote_one refl)
    c.put_four-then-code-lt1048576.ensures)

pub bounds-out-at-2 : goal.bounds-out-at-2
bounds-out-at-2 c = let six = six-piece _ c.if-code-lt1048576.false c.digit-2.ensures refl in
    omega (arith, room-pair (room-first c.requires six) refl)

pub bounds-out-at-3 : goal.bounds-out-at-3
bounds-out-at-3 c = let six = six-piece _ c.if-code-lt1048576.false c.digit-2.ensures c.digit-3.ensures in
    simp length-set (room-pair (room-first c.requires six) refl)

pub put_four-requires-2 : goal.put_four-requires-2
put_four-requires-2 c = room-second c.requires
    (six-piece _ c.if-code-lt1048576.false c.digit-2.ensures c.digit-3.ensures) (wrote-pair refl)

pub returns : goal.returns
returns c = wrote-two (six-piece _ c.if-code-lt1048576.false c.digit-2.ensures c.digit-3.ensures) (wrote-pair refl)
    c.put_four-2.ensures

pub shape_of-out : goal.shape_of-out
shape_of-out c = wrote-length (wrote-two (six-piece _ c.if-code-lt1048576.false c.digit-2.ensures c.digit-3.ensures) (wrote-pair refl)
    c.put_four-2.ensures)
