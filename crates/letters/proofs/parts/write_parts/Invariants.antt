-- `letters::parts::write_parts` meets its contract. The loop's invariant: what is written and what
-- is left make up the whole.
use Rattle.letters.specs.Syllables.{parts_of, full_parts}
use Rattle.laws.proofs.Filling.{Filling}
use Rattle.laws.specs.Lists.{each}
use lib.ListN.{drop}
use Rattle.letters.proofs.parts.write_parts.Given as goal

abbrev pub invariant-loop-code : goal.invariant-loop-code
invariant-loop-code l = Filling (full_parts l.text) (each parts_of (drop l.code-index l.text)) l.initial.out l.out l.at
