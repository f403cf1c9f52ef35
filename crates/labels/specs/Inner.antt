-- What the helpers of the label file ask and promise: a byte that breaks a layout as a check
-- (`faulty`), and a label's bytes stored in a record (`Stores`).
use Rattle.std.specs.Prelude.{◌≡◌, cond, List, ℕ, leb, length, Option, Some, None, Result}
use Rattle.answers.specs.Checks.{Check, passes, refuses}
use Rattle.answers.specs.Answers.{checked}
use Rattle.answers.specs.declared.refusal.Refusal.{Refusal}
use Rattle.labels.specs.Records.{record_of}
use Rattle.labels.specs.Images.{changed, replaced}

-- the first byte that breaks a record's layout, if there is one
abbrev pub faulty : Option ℕ → Check
faulty None = passes
faulty (Some byte) = refuses 7 byte

-- 7: bytes to be stored are over 88
unfoldable pub too_many : List ℕ → Check
too_many bytes = cond (leb (length bytes) 88) passes (refuses 7 8)

-- bytes are stored in a record, or refused
pub record Stores (image : List ℕ) (k object berth : ℕ) (bytes : List ℕ) (r : Result (Unit {0}) Refusal) (image' : List ℕ) : Type 0 where
  pub answers : checked r ≡ too_many bytes
  pub leaves : image' ≡ changed (too_many bytes) image (replaced image k (record_of object berth bytes))
