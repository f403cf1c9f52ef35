-- What the functions that read one row of a table ask of their callers.
use Rattle.std.specs.Prelude.{◌≡◌, List, ℕ, ◌≤◌, ◌<◌, length, get_or}
use Rattle.std.proofs.Math.Option.{Option}
use Rattle.encodings.specs.Rows.{Units, Table, row_in}

-- the first unit a, of the row `row` and between lo and hi, stands at an index
pub record BeginsIn (table : Table) (text : List ℕ) (at a : ℕ) (row : Option (List Units)) (lo hi : ℕ) : Type 0 where
  pub inside : at < length text
  pub is : a ≡ get_or text at 0
  pub picks : row_in table a ≡ row
  pub least : lo ≤ a
  pub most : a ≤ hi
