-- `listing::lines::put_line` meets its contract: the code, a space, the name or -, and a line feed,
-- one after the other.
use native.Mathlib.Omega.{arith}
use lib.ListN.{length-set}
use Rattle.laws.proofs.Filling.{wrote-length}
use Rattle.listing.proofs.LineWriting.{room-code, room-space, room-name, room-feed, wrote-line}
use borrow.Author.Rules.{rules}
use Rattle.listing.proofs.lines.put_line.Goals as goal

pub put_hex-after_code-requires : goal.put_hex-after_code-requires
put_hex-after_code-requires c = room-code _ c.requires

pub bounds-out-after_code : goal.bounds-out-after_code
bounds-out-after_code c = room-space _ c.requires c.put_hex-after_code.ensures

pub overflow_add-after_code : goal.overflow_add-after_code
overflow_add-after_code c = search (rules, room-space _ c.requires c.put_hex-after_code.ensures)

pub put_name-after_name-requires : goal.put_name-after_name-requires
put_name-after_name-requires c = room-name _ c.requires c.put_hex-after_code.ensures

pub bounds-out-after_name : goal.bounds-out-after_name
bounds-out-after_name c = room-feed _ c.requires c.put_hex-after_code.ensures c.put_name-after_name.ensures

pub overflow_add-result : goal.overflow_add-result
overflow_add-result c = omega (
  arith,
  room-feed _ c.requires c.put_hex-after_code.ensures c.put_name-after_name.ensures,
  simp length-set at c.out-2-1.given,
  c.out-1.given,
)

pub returns : goal.returns
returns c = wrote-line _ c.requires c.put_hex-after_code.ensures c.put_name-after_name.ensures

pub shape_of-out : goal.shape_of-out
shape_of-out c = wrote-length (returns c)
