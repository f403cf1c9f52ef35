-- `letters::sort::sorter` meets its contract: 2 where the code point is bad, else its sort.
use Rattle.letters.specs.Sorts.{sort_of}
use Rattle.answers.proofs.Verdicts.{refused-code, done-code}
use Rattle.letters.proofs.sort.sorter.Goals as goal

pub returns-then-is_bad : goal.returns-then-is_bad
returns-then-is_bad c = refused-code (sort_of c.args.code) _ c.is_bad.ensures c.if-is_bad.true

pub returns : goal.returns
returns c = done-code (sort_of c.args.code) _ c.is_bad.ensures c.if-is_bad.false c.sort_of.ensures
