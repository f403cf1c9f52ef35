-- `names::write::name_by` meets its contract: the check of the room refuses, or the name is written.
use mathlib.Core.Path.{sym}
use Rattle.answers.proofs.Checks.{no-room-kept}
use Rattle.names.proofs.Writing.{by-done}
use Rattle.names.proofs.write.name_by.Goals as goal

pub put_name-requires : goal.put_name-requires
put_name-requires c = record { inside = c.requires; last_in_bounds = no-room-kept _ _ (sym c.in_ok-check_name_room.ensures) }

pub returns : goal.returns
returns c = by-done _ _ _ c.check_name_room.ensures c.in_ok-check_name_room.was c.put_name.ensures
