-- `letters::step::one_step` meets its contract: 2 where the code point is bad, else its parts.
use Rattle.letters.specs.Syllables.{one_step}
use Rattle.answers.proofs.Verdicts.{refused-code, done-code}
use Rattle.letters.proofs.step.one_step.Goals as goal

pub returns-then-is_bad : goal.returns-then-is_bad
returns-then-is_bad c = refused-code (one_step c.args.code) _ c.is_bad.ensures c.if-is_bad.true

pub returns : goal.returns
returns c = done-code (one_step c.args.code) _ c.is_bad.ensures c.if-is_bad.false c.parts_of.ensures
