-- The well-formed sequences, out of table 3-7. In order: by their lengths, with the bounds of their
-- bytes and of the value (`Formed`, `full-formed`); and EVERY WELL-FORMED SEQUENCE HAS A SCALAR
-- VALUE, no surrogate and nothing over 10FFFF (`full-good`).
use mathlib.Core.Path.{◌≡◌, sym}
use mathlib.Core.Bool.{false}
use mathlib.Core.Option.{none}
use mathlib.Core.Logic.{inl, inr}
use mathlib.Core.List.{List, [], ◌∷◌}
use Prim.Native.Nat.{ℕ, ◌≤◌}
use native.Mathlib.Omega.{arith}
use Rattle.laws.proofs.Ranges.{Cases, look-cases}
use Rattle.answers.specs.Checks.{bad}
use Rattle.answers.proofs.Checks.{good-low, good-high}
use Rattle.encodings.specs.Pieces.{full}
use Rattle.encodings.specs.Rows.{◌to◌, in_row, row_in}
use Rattle.encodings.proofs.Rows.{full-bad, Follow, ends, goes, full-follow}
use Rattle.utf8.specs.Table37.{continuation, table37, kind_of}
use Rattle.utf8.specs.Utf8.{value_of}

-- ---- the well-formed sequences by their lengths, with the bounds of the value

pub data Formed : List ℕ → Type 0 where
  of_one : (a : ℕ) → a ≤ 0x7F → Formed (a ∷ [])
  of_two : (a b : ℕ) → 0xC2 ≤ a → a ≤ 0xDF → 0x80 ≤ b → b ≤ 0xBF → Formed (a ∷ b ∷ [])
  of_three : (a b c : ℕ) → 0xE0 ≤ a → a ≤ 0xEF → 0x80 ≤ b → b ≤ 0xBF → 0x80 ≤ c → c ≤ 0xBF
      → 0x800 ≤ value_of (a ∷ b ∷ c ∷ []) → bad (value_of (a ∷ b ∷ c ∷ [])) ≡ false → Formed (a ∷ b ∷ c ∷ [])
  of_four : (a b c d : ℕ) → 0xF0 ≤ a → a ≤ 0xF4 → 0x80 ≤ b → b ≤ 0xBF → 0x80 ≤ c → c ≤ 0xBF → 0x80 ≤ d → d ≤ 0xBF
      → 0x10000 ≤ value_of (a ∷ b ∷ c ∷ d ∷ []) → value_of (a ∷ b ∷ c ∷ d ∷ []) ≤ 0x10FFFF → Formed (a ∷ b ∷ c ∷ d ∷ [])

-- one law a row of the table, named by its first byte
formed-00 : {a : ℕ} {x : List ℕ} → a ≤ 0x7F → Follow [] x → Formed (a ∷ x)
formed-00 {a} m ends = of_one a m

formed-C2 : {a : ℕ} {x : List ℕ} → 0xC2 ≤ a → a ≤ 0xDF → Follow (continuation ∷ []) x → Formed (a ∷ x)
formed-C2 {a} l m (goes {b = b} p q ends) = of_two a b l m p q

formed-E0 : {a : ℕ} {x : List ℕ} → 0xE0 ≤ a → a ≤ 0xE0 → Follow ((0xA0 to 0xBF) ∷ continuation ∷ []) x → Formed (a ∷ x)
formed-E0 {a} l m (goes {b = b} p q (goes {b = c} r s ends)) =
    of_three a b c l (omega arith) (omega arith) q r s (omega arith) (good-low _ (omega arith))

formed-E1 : {a : ℕ} {x : List ℕ} → 0xE1 ≤ a → a ≤ 0xEC → Follow (continuation ∷ continuation ∷ []) x → Formed (a ∷ x)
formed-E1 {a} l m (goes {b = b} p q (goes {b = c} r s ends)) =
    of_three a b c (omega arith) (omega arith) p q r s (omega arith) (good-low _ (omega arith))

formed-ED : {a : ℕ} {x : List ℕ} → 0xED ≤ a → a ≤ 0xED → Follow ((0x80 to 0x9F) ∷ continuation ∷ []) x → Formed (a ∷ x)
formed-ED {a} l m (goes {b = b} p q (goes {b = c} r s ends)) =
    of_three a b c (omega arith) (omega arith) p (omega arith) r s (omega arith) (good-low _ (omega arith))

formed-EE : {a : ℕ} {x : List ℕ} → 0xEE ≤ a → a ≤ 0xEF → Follow (continuation ∷ continuation ∷ []) x → Formed (a ∷ x)
formed-EE {a} l m (goes {b = b} p q (goes {b = c} r s ends)) =
    of_three a b c (omega arith) m p q r s (omega arith) (good-high _ (omega arith) (omega arith))

formed-F0 : {a : ℕ} {x : List ℕ} → 0xF0 ≤ a → a ≤ 0xF0 → Follow ((0x90 to 0xBF) ∷ continuation ∷ continuation ∷ []) x → Formed (a ∷ x)
formed-F0 {a} l m (goes {b = b} p q (goes {b = c} r s (goes {b = d} t u ends))) =
    of_four a b c d l (omega arith) (omega arith) q r s t u (omega arith) (omega arith)

formed-F1 : {a : ℕ} {x : List ℕ} → 0xF1 ≤ a → a ≤ 0xF3 → Follow (continuation ∷ continuation ∷ continuation ∷ []) x → Formed (a ∷ x)
formed-F1 {a} l m (goes {b = b} p q (goes {b = c} r s (goes {b = d} t u ends))) =
    of_four a b c d (omega arith) (omega arith) p q r s t u (omega arith) (omega arith)

formed-F4 : {a : ℕ} {x : List ℕ} → 0xF4 ≤ a → a ≤ 0xF4 → Follow ((0x80 to 0x8F) ∷ continuation ∷ continuation ∷ []) x → Formed (a ∷ x)
formed-F4 {a} l m (goes {b = b} p q (goes {b = c} r s (goes {b = d} t u ends))) =
    of_four a b c d (omega arith) m p (omega arith) r s t u (omega arith) (omega arith)

-- by the rows of the table
formed-row : (a : ℕ) (x : List ℕ) → Cases none (λ r. in_row r x ≡ full) a table37 → Formed (a ∷ x)
formed-row a x (inl h) = formed-00 h.1.0 (full-follow _ x h.1.1)
formed-row a x (inr (inl h)) = formed-C2 h.0 h.1.0 (full-follow _ x h.1.1)
formed-row a x (inr (inr (inl h))) = formed-E0 h.0 h.1.0 (full-follow _ x h.1.1)
formed-row a x (inr (inr (inr (inl h)))) = formed-E1 h.0 h.1.0 (full-follow _ x h.1.1)
formed-row a x (inr (inr (inr (inr (inl h))))) = formed-ED h.0 h.1.0 (full-follow _ x h.1.1)
formed-row a x (inr (inr (inr (inr (inr (inl h)))))) = formed-EE h.0 h.1.0 (full-follow _ x h.1.1)
formed-row a x (inr (inr (inr (inr (inr (inr (inl h))))))) = formed-F0 h.0 h.1.0 (full-follow _ x h.1.1)
formed-row a x (inr (inr (inr (inr (inr (inr (inr (inl h)))))))) = formed-F1 h.0 h.1.0 (full-follow _ x h.1.1)
formed-row a x (inr (inr (inr (inr (inr (inr (inr (inr (inl h))))))))) = formed-F4 h.0 h.1.0 (full-follow _ x h.1.1)
formed-row a x (inr (inr (inr (inr (inr (inr (inr (inr (inr e))))))))) = absurd (full-bad (sym e))

pub full-formed : (u : List ℕ) → kind_of u ≡ full → Formed u
unfolding row_in
full-formed [] e = absurd (full-bad (sym e))
full-formed (a ∷ x) e = formed-row a x (look-cases none (λ r. in_row r x ≡ full) a table37 e)

-- ---- the value

formed-good : {u : List ℕ} → Formed u → bad (value_of u) ≡ false
formed-good (of_one a m) = good-low a (omega arith)
formed-good (of_two a b l m p q) = good-low _ (omega arith)
formed-good (of_three a b c l m p q r s least g) = g
formed-good (of_four a b c d l m p q r s t u least most) = good-high _ (omega arith) most

pub full-good : (u : List ℕ) → kind_of u ≡ full → bad (value_of u) ≡ false
full-good u e = formed-good (full-formed u e)
