-- `mending::text::At::pass` meets its contract: where nothing passes one character is left to `make`,
-- else what passes is copied.
use Rattle.mending.proofs.Turns.{passes-room, passes-moved}
use Rattle.mending.proofs.text.At.pass.Goals as goal

pub copy-written-requires : goal.copy-written-requires
copy-written-requires c = record { from_le_to = c.passing-end.ensures.goes.on; to_in_bounds = c.passing-end.ensures.goes.inside; from_in_bounds = passes-room c.requires c.passing-end.ensures }

pub returns : goal.returns
returns c = passes-moved c.passing-end.ensures c.if-end-read.false
    c.copy-written.ensures
