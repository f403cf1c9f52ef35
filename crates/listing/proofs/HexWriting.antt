-- Writing a code in hex: the last four digits fit (`four-fits`); a code is the digits before the
-- last four, and these (`four-piece`, `five-piece`, `six-piece`). d, or d and e, are the digits
-- before the last four, as the code finds them.
use mathlib.Core.Path.{◌≡◌}
use mathlib.Core.List.{List, [], ◌∷◌}
use Prim.Native.Nat.{ℕ, ◌+◌, ◌/◌, ◌%◌, ◌≤◌, ◌<◌}
use native.Mathlib.Omega.{arith}
use lib.ListN.{length}
use Rattle.laws.specs.Writing.{Room}
use Rattle.laws.proofs.Filling.{Piece}
use Rattle.listing.specs.Hex.{hex_digit, last_four, hex_of}
use Rattle.listing.proofs.Digits.{four-long, hex-four, hex-five, hex-six}

module _ (c : ℕ) where
  pub four-fits : {out : List ℕ} {at : ℕ} → Room out at (last_four c) → at + 4 ≤ length out
  four-fits room = omega (arith, room.fits, four-long c)

  pub four-piece : c < 0x10000 → Piece (hex_of c) [] (last_four c)
  four-piece h = record { eq = hex-four c h }

  pub five-piece : 0x10000 ≤ c → c < 0x100000 → {d : ℕ} → d ≡ hex_digit (c / 0x10000 % 16) → Piece (hex_of c) (d ∷ []) (last_four c)
  five-piece h k p = record { eq = rw p (hex-five c h k) }

  pub six-piece : 0x100000 ≤ c → {d e : ℕ} → d ≡ hex_digit (c / 0x100000 % 16) → e ≡ hex_digit (c / 0x10000 % 16) → Piece (hex_of c) (d ∷ e ∷ []) (last_four c)
  six-piece h p q = record { eq = rw (p, q) (hex-six c h) }
