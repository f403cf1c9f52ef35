-- How many bytes a code point takes at most. It is proved here, since the `impl` that makes UTF-8 an
-- encoding form of the code cites it, and an `impl` cites no file of its crate's proofs/.
use Rattle.std.specs.Prelude.{ℕ, ◌≤◌, length}
use Rattle.std.proofs.Common.{arith}
use Rattle.std.proofs.lemmas.Bool.Decides.{nat_tests}
use Rattle.utf8.specs.Utf8.{bytes_of}

pub bytes_most : (c : ℕ) → length (bytes_of c) ≤ 4
unfolding bytes_of
bytes_most c = grind (arith, nat_tests)
