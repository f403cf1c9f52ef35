-- `mending::unchanged::are_low` meets its contract: where its test finds no high bit, all eight
-- bytes are ASCII.
use Rattle.mending.proofs.Passes.{word_low}
use borrow.Author.Rules.{rules}
use Rattle.mending.proofs.unchanged.are_low.Goals as goal

pub returns : goal.returns
returns c = search (rules, word_low)
