use Rattle.clusters.proofs.Writing.{going-room, going_more, going_end}
use lib.ListN.{drop_of_length-le}
use Rattle.laws.proofs.Lists.{at-index}
use Rattle.clusters.proofs.gathered.Writer.put_letters.Goals as goal

pub put_letter-writer-requires : goal.put_letter-writer-requires
put_letter-writer-requires c = going-room c.loop-letter.invariant (at-index 0 _ _ c.loop-letter-test.true) c.requires

pub loop-letter-preserved : goal.loop-letter-preserved
loop-letter-preserved c = going_more c.loop-letter.invariant (at-index 0 _ _ c.loop-letter-test.true) c.put_letter-writer.ensures

pub returns : goal.returns
returns c = going_end c.loop-letter.invariant (drop_of_length-le _ c.loop-letter-test.false)
