-- `mending_units::unchanged::are_plain` meets its contract: if its test finds no high bit, all
-- four units are below 1000.
use Rattle.mending_units.proofs.Passes.{four-plain}
use borrow.Author.Rules.{rules}
use Rattle.mending_units.proofs.unchanged.are_plain.Goals as goal

pub returns : goal.returns
returns c = search (rules, four-plain)
