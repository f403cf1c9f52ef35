-- `letters::parts::take_apart`, which calls itself, meets its contract: at the depth 0 the code
-- point itself, else its one part, or the parts of its two parts one after the other. The depth
-- falls.
use Rattle.letters.proofs.parts.+take_apart.Given as goal

abbrev pub decreases-take_apart : goal.decreases-take_apart
decreases-take_apart l = l.depth
