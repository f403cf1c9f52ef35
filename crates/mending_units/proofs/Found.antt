-- What the fast paths find at an index. In order: an unpaired surrogate, low (`low-character`) or
-- high (`high-character`); a letter to which nothing joins (`letter-character`); and a syllable in
-- letters, of two (`spelled-two`) and of three (`spelled-three`).
use mathlib.Core.Path.{◌≡◌, refl, sym, ◌∙◌, ap}
use mathlib.Core.Bool.{false}
use mathlib.Core.Logic.{⊎_elim}
use mathlib.Core.List.{List}
use Prim.Native.Nat.{ℕ, ◌+◌, ◌-◌, ◌*◌, ◌≤◌, ◌<◌}
use native.Mathlib.Omega.{arith}
use lib.ListN.{length, get_or, drop}
use Rattle.laws.specs.Ranges.{within}
use Rattle.laws.proofs.Ranges.{within-not}
use Rattle.encodings.specs.Forms.{pieces_in}
use Rattle.encodings.specs.Reading.{good_of, ill_of, taken_in}
use Rattle.utf16.specs.Utf16.{low, form16}
use Rattle.utf16.proofs.Takes.{at-unpaired-low, begins-pair, at_before, at_after}
use Rattle.mending.specs.Characters.{character_in}
use Rattle.mending.specs.Inner.{last_of}
use Rattle.mending.proofs.Characters.{character-grown, grown-stays}
use Rattle.mending.proofs.FastPaths.{ill-alone, letter-apart, last-yes, last-outside, spelled-pair, spelled-triple}
use Rattle.mending_units.proofs.Units.{code_at, same-within, same-last, letter-taken}

-- ---- AN UNPAIRED SURROGATE

module _ (text : List ℕ) (at : ℕ) (h : at < length text) {a : ℕ} (is : a ≡ get_or text at 0) where
  pub low-character : 0xDC00 ≤ a → a ≤ 0xDFFF → ill_of 1 ≡ character_in form16 (pieces_in form16 (drop at text))
  low-character l m = sym (ill-alone form16 text at (at-unpaired-low text at h is l m))

  pub high-character : 0xD800 ≤ a → a < 0xDC00 → low (get_or text (at + 1) 0) ≡ false → ill_of 1 ≡ character_in form16 (pieces_in form16 (drop at text))
  high-character l m e =
      let begins = begins-pair text at h is l (omega arith) in
      sym (ill-alone form16 text at
      (⊎_elim (λ k. at_before text at begins refl k) (λ k. at_after text at begins refl k) (within-not 0xDC00 0xDFFF (get_or text (at + 1) 0) e)))

-- ---- A LETTER

pub letter-character : (text : List ℕ) (at : ℕ) {a : ℕ} → a ≡ get_or text at 0 → 0x1100 ≤ a → a ≤ 0x11FF → get_or text (at + 1) 0 < 0x10000
    → (a ≤ 0x1112 → within 0x1161 0x1175 (get_or text (at + 1) 0) ≡ false) → good_of a 1 ≡ character_in form16 (pieces_in form16 (drop at text))
letter-character text at {a} is l m small after =
    sym (character-grown form16 text at (letter-taken text at is l m)
    ∙ grown-stays form16 (good_of a 1) text (at + 1) refl
    (letter-apart a (code_at text (at + 1)) m (λ k. same-within text (at + 1) small 0x1161 0x1175 (omega arith) ∙ after k)))

-- ---- A SYLLABLE IN LETTERS: a is an initial at an index, b a peak after it

module _ (text : List ℕ) (at : ℕ) {a : ℕ} (first : a ≡ get_or text at 0) (a-least : 0x1100 ≤ a) (a-most : a ≤ 0x1112)
    {b : ℕ} (second : b ≡ get_or text (at + 1) 0) (b-least : 0x1161 ≤ b) (b-most : b ≤ 0x1175) where
  initial-taken : good_of (0x1100 + (a - 0x1100)) 1 ≡ taken_in form16 (pieces_in form16 (drop at text))
  initial-taken =
      let e : 0x1100 + (a - 0x1100) ≡ a = omega arith in
      rw e (letter-taken text at first a-least (omega arith))

  peak-taken : good_of (0x1161 + (b - 0x1161)) 1 ≡ taken_in form16 (pieces_in form16 (drop (at + 1) text))
  peak-taken =
      let e : 0x1161 + (b - 0x1161) ≡ b = omega arith in
      rw e (letter-taken text (at + 1) second (omega arith) (omega arith))

  -- c is the unit after them
  module _ {c : ℕ} (third : c ≡ get_or text (at + 2) 0) (small : c < 0x10000) where
    two : at + 2 ≡ at + 1 + 1
    two = omega arith

    -- F of it is F of the code point there
    last_code : {f : ℕ} → f ≡ last_of c → f ≡ last_of (code_at text (at + 1 + 1))
    last_code e = rw two at (e ∙ ap last_of third ∙ same-last text (at + 2) (omega (arith, third)))

    pub spelled-two : within 0x11A8 0x11C2 c ≡ false
        → good_of (0xAC00 + (a - 0x1100) * 588 + (b - 0x1161) * 28) 2 ≡ character_in form16 (pieces_in form16 (drop at text))
    spelled-two e =
        spelled-pair form16 1 text at (a - 0x1100) (b - 0x1161) (omega arith) (omega arith) initial-taken peak-taken
        (last_code (sym (last-outside c e))) refl

    pub spelled-three : 0x11A8 ≤ c → c ≤ 0x11C2
        → good_of (0xAC00 + (a - 0x1100) * 588 + (b - 0x1161) * 28 + (c - 0x11A7)) 3 ≡ character_in form16 (pieces_in form16 (drop at text))
    spelled-three l m =
        let e : 0x11A7 + (c - 0x11A7) ≡ c = omega arith in
        let there : good_of (0x11A7 + (c - 0x11A7)) 1 ≡ taken_in form16 (pieces_in form16 (drop (at + 2) text)) =
        rw e (letter-taken text (at + 2) third (omega arith) (omega arith)) in
        spelled-triple form16 1 text at (a - 0x1100) (b - 0x1161) (omega arith) (omega arith) initial-taken peak-taken
        (last_code (sym (last-yes c l m))) (λ z. omega (arith, z)) (rw two at there)
