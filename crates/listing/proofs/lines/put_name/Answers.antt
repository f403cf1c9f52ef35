-- `listing::lines::put_name` meets its contract: naming is done and the name stands from the index
-- on, or it refuses and leaves all, and - is stored.
use native.Mathlib.Omega.{arith}
use Rattle.listing.proofs.LineWriting.{name-fits, wrote-named, refused-index, wrote-unnamed}
use Rattle.listing.proofs.lines.put_name.Goals as goal

pub overflow_add-result : goal.overflow_add-result
overflow_add-result c = omega (arith, name-fits _ c.name.ensures c.in-Ok.is)

pub bounds-out-at : goal.bounds-out-at
bounds-out-at c = refused-index _ c.requires c.name.ensures c.in-Err.is

pub returns-in-Ok : goal.returns-in-Ok
returns-in-Ok c = wrote-named _ c.requires c.name.ensures c.in-Ok.is

pub returns-in-Err : goal.returns-in-Err
returns-in-Err c = wrote-unnamed _ c.requires c.name.ensures c.in-Err.is
