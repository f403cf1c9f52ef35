-- `utf8::decode::is_within` meets its contract: a range has what lies between its ends.
use Rattle.std.proofs.Common.{arith}
use Rattle.std.proofs.lemmas.Bool.Decides.{nat_tests}
use Rattle.laws.specs.Ranges.{within}
use Rattle.utf8.proofs.decode.is_within.Goals as goal

pub returns : goal.returns
unfolding within
returns c = grind (arith, nat_tests)
