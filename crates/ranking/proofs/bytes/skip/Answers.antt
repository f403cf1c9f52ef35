-- `ranking::bytes::skip` meets its contract: plain bytes that are alike decide nothing where an
-- item begins.
use native.Mathlib.Omega.{arith}
use Rattle.ranking.proofs.Texts.{follows-none, alike-follows}
use Rattle.ranking.proofs.bytes.skip.Goals as goal

pub returns-then-not-is_apart : goal.returns-then-not-is_apart
returns-then-not-is_apart c = follows-none c.requires.first-inside c.requires.second-inside

pub alike-count-requires : goal.alike-count-requires
alike-count-requires c = record { at_in_bounds = c.requires.first-inside; other_in_bounds = c.requires.second-inside }

pub overflow_add-result : goal.overflow_add-result
overflow_add-result c = omega (arith, c.alike-count.ensures.first-inside, c.requires.first-limit)

pub overflow_add-result-2 : goal.overflow_add-result-2
overflow_add-result-2 c = omega (arith, c.alike-count.ensures.second-inside, c.requires.second-limit)

pub returns : goal.returns
returns c = alike-follows c.is_apart.ensures c.if-not-is_apart.false
    c.alike-count.ensures
