-- What the functions that read one row of table 3-7 ask of their callers.
use Rattle.std.proofs.Math.Option.{Option}
use Rattle.std.specs.Prelude.{List, ℕ}
use Rattle.encodings.specs.Rows.{Units}
use Rattle.encodings.specs.Inner.{BeginsIn}
use Rattle.utf8.specs.Table37.{table37}

-- the first byte a, of the row `row` and between lo and hi, stands at an index
abbrev pub Begins : List ℕ → ℕ → ℕ → Option (List Units) → ℕ → ℕ → Type 0
Begins = BeginsIn table37
