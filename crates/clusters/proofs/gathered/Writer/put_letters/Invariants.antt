-- `clusters::gathered::Writer::put_letters` meets its contract. The loop's invariant: of the letters those
-- before the index are taken (`Going`).
use Rattle.clusters.proofs.Writing.{Going}
use lib.ListN.{drop}
use Rattle.clusters.proofs.gathered.Writer.put_letters.Given as goal

abbrev pub invariant-loop-letter : goal.invariant-loop-letter
invariant-loop-letter l = Going l.initial.writer l.letters (drop l.letter-index l.letters) l.initial.out l.writer l.out
