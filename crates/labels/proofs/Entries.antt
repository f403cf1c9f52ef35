-- A record's bytes read as numbers: the object (`object-read`), the berth (`berth-read`), and all
-- that a record says beside its label (`entry_read`).
use mathlib.Core.Path.{◌≡◌}
use mathlib.Core.List.{List, [], ◌∷◌}
use Prim.Native.Nat.{ℕ, ◌≤◌}
use native.Mathlib.Omega.{arith}
use lib.ListN.{length, get_or}
use Rattle.std.specs.Int.{w16, w32, from_be_bytes}
use Rattle.labels.specs.Records.{object_of, berth_of, entry_of}
use Rattle.labels.specs.declared.record.Entry.{Entry}
use Rattle.labels.proofs.Numbers.{number-four, number-two}

object-read : (bytes : List ℕ) → length bytes ≡ 96 → from_be_bytes w32 (get_or bytes 0 0 ∷ get_or bytes 1 0 ∷ get_or bytes 2 0 ∷ get_or bytes 3 0 ∷ []) ≡ object_of bytes
unfolding object_of
object-read [] h = absurd (omega arith)
object-read (a ∷ []) h = absurd (omega arith)
object-read (a ∷ b ∷ []) h = absurd (omega arith)
object-read (a ∷ b ∷ c ∷ []) h = absurd (omega arith)
object-read (a ∷ b ∷ c ∷ d ∷ x) h = number-four a b c d

berth-read : (bytes : List ℕ) → 6 ≤ length bytes → from_be_bytes w16 (get_or bytes 4 0 ∷ get_or bytes 5 0 ∷ []) ≡ berth_of bytes
unfolding berth_of
berth-read [] h = absurd (omega arith)
berth-read (a ∷ []) h = absurd (omega arith)
berth-read (a ∷ b ∷ []) h = absurd (omega arith)
berth-read (a ∷ b ∷ c ∷ []) h = absurd (omega arith)
berth-read (a ∷ b ∷ c ∷ d ∷ []) h = absurd (omega arith)
berth-read (a ∷ b ∷ c ∷ d ∷ e ∷ []) h = absurd (omega arith)
berth-read (a ∷ b ∷ c ∷ d ∷ e ∷ f ∷ x) h = number-two e f

pub entry_read : (bytes : List ℕ) → length bytes ≡ 96 → {object berth : ℕ}
    → object ≡ from_be_bytes w32 (get_or bytes 0 0 ∷ get_or bytes 1 0 ∷ get_or bytes 2 0 ∷ get_or bytes 3 0 ∷ [])
    → berth ≡ from_be_bytes w16 (get_or bytes 4 0 ∷ get_or bytes 5 0 ∷ [])
    → ◌≡◌ {A = Entry} (record { object = object; berth = berth; length = get_or bytes 6 0 }) (entry_of bytes)
entry_read bytes size p q = rw (p, q, object-read bytes (omega arith), berth-read bytes (omega arith))
