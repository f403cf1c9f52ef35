-- `mending_units::unchanged::kept` meets its contract: no unit, no letter after the last one, one
-- below 1100, or the last is given back.
use mathlib.Core.Path.{sym, ◌∙◌, ap}
use native.Mathlib.Omega.{arith}
use Rattle.encodings.proofs.Taking.{test-false}
use Rattle.mending_units.specs.Inner.{is_jamo}
use Rattle.mending_units.proofs.Passes.{trails-inside, trails_none, trails-apart, trails-plain, trails-back}
use borrow.Author.Rules.{rules}
use Rattle.mending_units.proofs.unchanged.kept.Goals as goal

pub returns-then-end-from : goal.returns-then-end-from
returns-then-end-from c = trails_none c.requires c.if-end-from.true

pub returns-then-not-is_within : goal.returns-then-not-is_within
returns-then-not-is_within c = trails-apart c.requires (omega (arith, c.unit_at.ensures.value, c.unit_at.ensures.upper_bound)) (ap is_jamo (sym c.unit_at.ensures.value) ∙ test-false c.is_within.ensures c.if-not-is_within.true)

pub offset_bounds-text-end : goal.offset_bounds-text-end
offset_bounds-text-end c = search (rules, (trails-inside c.requires).1)

pub bounds-text-end : goal.bounds-text-end
bounds-text-end c = omega (arith, (trails-inside c.requires).1)

pub returns-then-text-end-lt4352 : goal.returns-then-text-end-lt4352
returns-then-text-end-lt4352 c = trails-plain c.requires c.if-text-end-lt4352.true

pub returns : goal.returns
returns c = trails-back c.requires (omega arith)
