-- `mending_units::unchanged::run` meets its contract: what passes after what passes, passes with
-- it.
use Rattle.mending.proofs.Turns.{passes_on}
use Rattle.mending_units.proofs.unchanged.run.Goals as goal

pub singles-requires : goal.singles-requires
singles-requires c = c.fours-plain.ensures.goes.inside

pub kept-end-requires : goal.kept-end-requires
kept-end-requires c = c.singles.ensures

pub pair-requires : goal.pair-requires
pair-requires c = c.kept-end.ensures.goes.inside

pub returns : goal.returns
returns c = passes_on c.fours-plain.ensures (passes_on c.kept-end.ensures c.pair.ensures)
