-- `answers::refusal::tell` meets its contract: each return knows which refusal it was handed.
use Rattle.answers.specs.Answers.{told}
use mathlib.Core.Path.{sym, ap}
use Rattle.answers.proofs.refusal.tell.Goals as goal

pub returns-in-OverLimit : goal.returns-in-OverLimit
returns-in-OverLimit c = sym (ap told c.in-OverLimit.is)

pub returns-in-BadCodePoint : goal.returns-in-BadCodePoint
returns-in-BadCodePoint c = sym (ap told c.in-BadCodePoint.is)

pub returns-in-NoRoom : goal.returns-in-NoRoom
returns-in-NoRoom c = sym (ap told c.in-NoRoom.is)

pub returns-in-NoSyllable : goal.returns-in-NoSyllable
returns-in-NoSyllable c = sym (ap told c.in-NoSyllable.is)

pub returns-in-NoName : goal.returns-in-NoName
returns-in-NoName c = sym (ap told c.in-NoName.is)

pub returns-in-NoRecord : goal.returns-in-NoRecord
returns-in-NoRecord c = sym (ap told c.in-NoRecord.is)

pub returns-in-BadLayout : goal.returns-in-BadLayout
returns-in-BadLayout c = sym (ap told c.in-BadLayout.is)
