-- `mending::fast::shorter_at` meets its contract: ASCII, letters, or a finished syllable.
use native.Mathlib.Omega.{arith}
use Rattle.mending.proofs.Passes.{low-character}
use Rattle.mending.proofs.fast.shorter_at.Goals as goal

pub returns-in-0-to-127 : goal.returns-in-0-to-127
returns-in-0-to-127 c = low-character c.args.text.now c.args.at (omega (arith, c.if-text-at.false)) (omega arith)
