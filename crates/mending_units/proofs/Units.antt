-- A unit and the code point that begins there. In order: the code point is the unit, or the unit is
-- a surrogate and the code point FFFD or more (`unit-cases`); so both lie in a range below the
-- surrogates or neither does (`same-within`), both are the same final or none is (`same-last`), and
-- a letter of the block 1100–11FF begins where its unit stands (`letter-taken`).
use mathlib.Core.Path.{◌≡◌, refl, sym, ◌∙◌, ap}
use mathlib.Core.List.{List}
use Prim.Native.Nat.{ℕ, ◌+◌, ◌≤◌, ◌<◌}
use native.Mathlib.Omega.{arith}
use lib.Dec.{ltb}
use lib.ListN.{length, get_or, drop, get_or-eq_default}
use borrow.Author.Tests.{ltb-true, ltb-false}
use Rattle.laws.specs.Ranges.{within}
use Rattle.laws.proofs.Bools.{test}
use Rattle.laws.proofs.Ranges.{within-above}
use Rattle.encodings.specs.Forms.{pieces_in}
use Rattle.encodings.specs.Reading.{good_of, taken_in}
use Rattle.encodings.specs.declared.answer.Taken.{Taken}
use Rattle.encodings.proofs.Taking.{nonzero-inside}
use Rattle.utf16.specs.Utf16.{form16}
use Rattle.utf16.proofs.Takes.{at-end, at_low, at_high, at-unpaired-low, begins-pair, at_pair, at_before, at_after}
use Rattle.mending.specs.Inner.{last_of}
use Rattle.mending.proofs.FastPaths.{last-outside}

-- the code point that begins at an index
abbrev pub code_at : List ℕ → ℕ → ℕ
code_at text at = (taken_in form16 (pieces_in form16 (drop at text))).code

less : {G : Type 0} (a n : ℕ) → (a < n → G) → (n ≤ a → G) → G
less a n yea nay = test (ltb a n) (λ e. yea (ltb-true a n e)) (λ e. nay (ltb-false a n e))

module _ (text : List ℕ) (at : ℕ) where
  -- r was found to begin there
  found : {r : Taken} → r ≡ taken_in form16 (pieces_in form16 (drop at text)) → r.code ≡ code_at text at
  found e = ap (λ (t : Taken). t.code) e

  pub unit-cases : {G : Type 0} → get_or text at 0 < 0x10000 → (code_at text at ≡ get_or text at 0 → G)
      → (0xD800 ≤ get_or text at 0 → 0xFFFD ≤ code_at text at → G) → G
  unit-cases {G} small same surrogate = less at (length text) inside after
    where
      a : ℕ
      a = get_or text at 0

      b : ℕ
      b = get_or text (at + 1) 0

      after : length text ≤ at → G
      after h = same (sym (found (at-end text at h)) ∙ sym (get_or-eq_default text 0 h))

      -- a high surrogate
      pair : at < length text → 0xD800 ≤ a → a < 0xDC00 → G
      pair h l m =
          let begins = begins-pair text at h refl l (omega arith) in
          less b 0xDC00 (λ k. surrogate l (omega (arith, found (at_before text at begins refl k))))
          (λ k.
          less b 0xE000 (λ n. surrogate l (omega (arith, found (at_pair text at begins refl k (omega arith)))))
          (λ n. surrogate l (omega (arith, found (at_after text at begins refl (omega arith))))))

      inside : at < length text → G
      inside h =
          less a 0xD800 (λ l. same (sym (found (at_low text at h refl l))))
          (λ l.
          less a 0xDC00 (λ m. pair h l m)
          (λ m.
          less a 0xE000 (λ n. surrogate l (omega (arith, found (at-unpaired-low text at h refl m (omega arith)))))
          (λ n. same (sym (found (at_high text at h refl (omega arith) small))))))

  module _ (small : get_or text at 0 < 0x10000) where
    pub same-within : (lo hi : ℕ) → hi < 0xD800 → within lo hi (code_at text at) ≡ within lo hi (get_or text at 0)
    same-within lo hi h =
        unit-cases small (λ e. ap (within lo hi) e)
        (λ l m. within-above lo hi (code_at text at) (omega arith) ∙ sym (within-above lo hi (get_or text at 0) (omega arith)))

    pub same-last : last_of (get_or text at 0) ≡ last_of (code_at text at)
    same-last =
        unit-cases small (λ e. ap last_of (sym e))
        (λ l m.
        last-outside (get_or text at 0) (within-above 0x11A8 0x11C2 (get_or text at 0) (omega arith))
        ∙ sym (last-outside (code_at text at) (within-above 0x11A8 0x11C2 (code_at text at) (omega arith))))

  pub letter-taken : {a : ℕ} → a ≡ get_or text at 0 → 0x1100 ≤ a → a ≤ 0x11FF → good_of a 1 ≡ taken_in form16 (pieces_in form16 (drop at text))
  letter-taken is l m = at_low text at (nonzero-inside text at is (omega arith)) is (omega arith)
