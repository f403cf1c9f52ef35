-- `answers::check::check_room` meets its contract.
use mathlib.Core.Path.{sym}
use Rattle.answers.proofs.Checks.{no-room-refuses, no-room-passes}
use native.Mathlib.Omega.{arith}
use Rattle.answers.proofs.check.check_room.Goals as goal

pub returns-then-room-needed : goal.returns-then-room-needed
returns-then-room-needed c = sym (no-room-refuses _ _ (omega (arith, c.if-room-needed.true)))

pub returns : goal.returns
returns c = sym (no-room-passes _ _ (omega (arith, c.if-room-needed.false)))
