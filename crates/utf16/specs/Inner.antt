-- What the function of a surrogate pair asks of its callers.
use Rattle.std.proofs.Math.Option.{some}
use Rattle.std.specs.Prelude.{List, [], ◌∷◌, ℕ}
use Rattle.encodings.specs.Rows.{◌to◌}
use Rattle.encodings.specs.Inner.{BeginsIn}
use Rattle.utf16.specs.Utf16.{table_d91}

-- the high surrogate a stands at an index
abbrev pub BeginsPair : List ℕ → ℕ → ℕ → Type 0
BeginsPair text at a = BeginsIn table_d91 text at a (some ((0xDC00 to 0xDFFF) ∷ [])) 0xD800 0xDBFF
