-- How many units a code point takes at most. It is proved here, since the `impl` that makes UTF-16
-- an encoding form of the code cites it, and an `impl` cites no file of its crate's proofs/.
use Rattle.std.specs.Prelude.{ℕ, ◌≤◌, length}
use Rattle.std.proofs.Common.{arith}
use Rattle.std.proofs.lemmas.Bool.Decides.{nat_tests}
use Rattle.utf16.specs.Utf16.{units16}

pub units-most : (c : ℕ) → length (units16 c) ≤ 2
unfolding units16
units-most c = grind (arith, nat_tests)
