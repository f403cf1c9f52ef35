-- The packing loses nothing, whatever letters of 1100–11FF a cluster has. In order: what stands in
-- nine bits (`letter-back`, `letter-from`); packed letters unpack to their row (`unpacked-packed`);
-- a number of 27 bits is packed again to itself (`packed-unpacked`), so that no two of them unpack
-- to the same row, and the number of a row is the only one (`packed-only`).
use mathlib.Core.Path.{◌≡◌, refl, sym, ◌∙◌, ap}
use mathlib.Core.List.{List, [], ◌∷◌, ◌++◌}
use Prim.Native.Nat.{ℕ, ◌+◌, ◌-◌, ◌*◌, ◌/◌, ◌%◌, ◌≤◌, ◌<◌}
use native.Mathlib.Omega.{arith}
use lib.Dec.{eqb}
use lib.ListN.{length, take}
use borrow.Author.Tests.{eqb-true, ne_eqb}
use Rattle.laws.specs.Lists.{All, none, also}
use Rattle.laws.proofs.Bools.{test}
use Rattle.clusters.specs.Rows.{letter_in, unpacked, packed}

-- ---- nine bits

-- what they stand for gives them back
letter-back : (n : ℕ) → letter_in n - 0x10FF ≡ n
letter-back n = test (eqb n 0) (λ e. rw (eqb-true n 0 e) refl) (λ e. simp e (omega arith))

-- and a letter's distance stands for it
letter-from : (l : ℕ) → 0x1100 ≤ l → letter_in (l - 0x10FF) ≡ l
letter-from l h = simp (ne_eqb (l - 0x10FF) 0 (λ z. omega (arith, z))) (omega arith)

-- ---- 27 bits

-- three times nine bits are read one by one
module _ (a b c : ℕ) (first : a < 512) (second : b < 512) (third : c < 512) where
  abbrev whole : ℕ
  whole = a + 512 * (b + 512 * (c + 0))

  low : whole % 512 ≡ a
  low = omega arith

  middle : whole / 512 % 512 ≡ b
  middle = omega arith

  high : whole / 262144 % 512 ≡ c
  high = omega arith

  read-bits : unpacked whole ≡ letter_in a ∷ letter_in b ∷ letter_in c ∷ []
  read-bits = rw (low, middle, high) refl

-- PACKED LETTERS UNPACK TO THEIR ROW, one to three letters of 1100–11FF
abbrev Inside : ℕ → Type 0
Inside l = (0x1100 ≤ l) × (l ≤ 0x11FF)

pub unpacked-packed : {x : List ℕ} → All Inside x → 1 ≤ length x → length x ≤ 3 → unpacked (packed x) ≡ take 3 (x ++ (0 ∷ 0 ∷ []))
unpacked-packed none h k = absurd (omega arith)
unpacked-packed (also {a = a} p none) h k = read-bits (a - 0x10FF) 0 0 (omega (arith, p.1)) (omega arith) (omega arith) ∙ rw (letter-from a p.0)
unpacked-packed (also {a = a} p (also {a = b} q none)) h k =
    read-bits (a - 0x10FF) (b - 0x10FF) 0 (omega (arith, p.1)) (omega (arith, q.1)) (omega arith) ∙ rw (letter-from a p.0, letter-from b q.0)
unpacked-packed (also {a = a} p (also {a = b} q (also {a = c} r none))) h k =
    read-bits (a - 0x10FF) (b - 0x10FF) (c - 0x10FF) (omega (arith, p.1)) (omega (arith, q.1)) (omega (arith, r.1))
    ∙ rw (letter-from a p.0, letter-from b q.0, letter-from c r.0)
unpacked-packed (also p (also q (also r (also s t)))) h k = absurd (omega arith)

-- A NUMBER OF 27 BITS IS PACKED AGAIN TO ITSELF
pub packed-unpacked : (n : ℕ) → n < 0x8000000 → packed (unpacked n) ≡ n
packed-unpacked n h = rw (letter-back (n % 512), letter-back (n / 512 % 512), letter-back (n / 262144 % 512)) (omega arith)

-- the number of letters is that of their row
packed-row : (x : List ℕ) → length x ≤ 3 → packed (take 3 (x ++ (0 ∷ 0 ∷ []))) ≡ packed x
packed-row [] h = refl
packed-row (a ∷ []) h = refl
packed-row (a ∷ b ∷ []) h = refl
packed-row (a ∷ b ∷ c ∷ []) h = refl
packed-row (a ∷ b ∷ c ∷ d ∷ x) h = absurd (omega arith)

-- so NO OTHER NUMBER OF 27 BITS UNPACKS TO A ROW
pub packed-only : (n : ℕ) → n < 0x8000000 → (x : List ℕ) → length x ≤ 3 → unpacked n ≡ take 3 (x ++ (0 ∷ 0 ∷ [])) → n ≡ packed x
packed-only n h x k e = sym (packed-unpacked n h) ∙ ap packed e ∙ packed-row x k
