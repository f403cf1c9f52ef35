-- `mending_units::lone::unpaired_at` meets its contract: a high surrogate with no low one after it,
-- or a low one.
use mathlib.Core.Path.{refl, sym, ◌∙◌, ap}
use native.Mathlib.Omega.{arith}
use Rattle.utf16.specs.Utf16.{low}
use Rattle.mending_units.proofs.Found.{low-character, high-character}
use Rattle.mending_units.proofs.lone.unpaired_at.Goals as goal

pub returns-in-55296-to-57343-clause-value : goal.returns-in-55296-to-57343-clause-value
returns-in-55296-to-57343-clause-value c = high-character c.args.text.now c.args.at c.requires refl (omega arith) (omega arith)
    (ap low (sym c.unit_at.ensures.value) ∙ sym c.is_within.ensures ∙ c.if-is_within.false)

pub returns-in-55296-to-57343-2-clause-value : goal.returns-in-55296-to-57343-2-clause-value
returns-in-55296-to-57343-2-clause-value c = low-character c.args.text.now c.args.at c.requires refl (omega arith) (omega arith)
