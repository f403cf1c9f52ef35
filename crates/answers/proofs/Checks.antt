-- Laws of the checks: a bad code point by its range; each check where it refuses and where it
-- passes; and back, what a code point that is not bad and a text that is taken say.
use mathlib.Core.Path.{◌≡◌, refl, sym, ◌∙◌, ap}
use mathlib.Core.Bool.{true, false}
use mathlib.Core.Logic.{◌⊎◌}
use mathlib.Core.List.{List, [], ◌∷◌}
use Prim.Native.Nat.{ℕ, ◌≤◌, ◌<◌}
use native.Mathlib.Omega.{arith}
use lib.ListN.{length, get_or}
use lib.Dec.{ltb}
use borrow.Author.Tests.{lt-ltb, le-ltb, ltb-true, ltb-false}
use Rattle.laws.specs.Lists.{All, first_where}
use Rattle.laws.specs.Ranges.{within}
use Rattle.laws.proofs.Bools.{test, or_left, or_right}
use Rattle.laws.proofs.Lists.{all-at, first-none, none_first}
use Rattle.laws.proofs.Ranges.{within-yes, within-below, within-above, within-not}
use Rattle.answers.specs.Checks.{Check, passes, refuses, over_limit, bad, first_bad, bad_code_point, no_room, takes_text, takes_units}
use Rattle.answers.proofs.Orders.{passes-refuses, order-first, passes-false}

-- ---- bad, by the ranges

pub good-low : (c : ℕ) → c < 0xD800 → bad c ≡ false
unfolding bad
good-low c h = simp (le-ltb 0x10FFFF c (omega arith), within-below 0xD800 0xDFFF c h)

pub good-high : (c : ℕ) → 0xDFFF < c → c ≤ 0x10FFFF → bad c ≡ false
unfolding bad
good-high c h k = simp (le-ltb 0x10FFFF c k, within-above 0xD800 0xDFFF c h)

pub bad-surrogate : (c : ℕ) → 0xD800 ≤ c → c ≤ 0xDFFF → bad c ≡ true
unfolding bad
bad-surrogate c h k = simp (le-ltb 0x10FFFF c (omega arith), within-yes 0xD800 0xDFFF c h k)

pub bad-over : (c : ℕ) → 0x10FFFF < c → bad c ≡ true
unfolding bad
bad-over c h = simp (lt-ltb 0x10FFFF c h)

-- ---- each check, where it refuses and where it passes

pub over-limit-refuses : (limit size : ℕ) → limit < size → over_limit limit size ≡ refuses 1 limit
unfolding over_limit
over-limit-refuses limit size h = simp (lt-ltb limit size h)

pub over-limit-passes : (limit size : ℕ) → size ≤ limit → over_limit limit size ≡ passes
unfolding over_limit
over-limit-passes limit size h = simp (le-ltb limit size h)

-- back: what is not refused is within the limit
pub over-limit-kept : (limit size : ℕ) → over_limit limit size ≡ passes → size ≤ limit
unfolding over_limit
over-limit-kept limit size e = ltb-false limit size (passes-false (ltb limit size) 1 limit e)

pub bad-code-point-refuses : (text : List ℕ) → first_bad text < length text → bad_code_point text ≡ refuses 2 (first_bad text)
unfolding bad_code_point
bad-code-point-refuses text h = simp (lt-ltb (first_bad text) (length text) h)

pub bad-code-point-passes : (text : List ℕ) → length text ≤ first_bad text → bad_code_point text ≡ passes
unfolding bad_code_point
bad-code-point-passes text h = simp (le-ltb (first_bad text) (length text) h)

-- of one code point alone
pub code-bad : (c : ℕ) → bad c ≡ true → bad_code_point (c ∷ []) ≡ refuses 2 0
unfolding bad_code_point first_where
code-bad c h = simp h

pub code-good : (c : ℕ) → bad c ≡ false → bad_code_point (c ∷ []) ≡ passes
unfolding bad_code_point first_where
code-good c h = simp h

pub no-room-refuses : (room needed : ℕ) → room < needed → no_room room needed ≡ refuses 3 needed
unfolding no_room
no-room-refuses room needed h = simp (lt-ltb room needed h)

pub no-room-passes : (room needed : ℕ) → needed ≤ room → no_room room needed ≡ passes
unfolding no_room
no-room-passes room needed h = simp (le-ltb room needed h)

-- back: where the check of the room passes there is room
pub no-room-kept : (room needed : ℕ) → no_room room needed ≡ passes → needed ≤ room
unfolding no_room
no-room-kept room needed e = ltb-false room needed (passes-false (ltb room needed) 3 needed e)

-- n is the length needed, as the code counted it
pub no-room-counted : (room needed : ℕ) {n : ℕ} {check : Check} → n ≡ needed → check ≡ no_room room n → check ≡ no_room room needed
no-room-counted room needed e h = h ∙ ap (no_room room) e

-- ---- a text: 1, then 2; b is its first bad code point

module _ (text : List ℕ) where
  pub text-over : 16384 < length text → takes_text text ≡ refuses 1 16384
  unfolding takes_text
  text-over h = simp (over-limit-refuses 16384 (length text) h)

  module _ (short : length text ≤ 16384) {b : ℕ} (first : b ≡ first_bad text) where
    pub text-bad : b < length text → takes_text text ≡ refuses 2 b
    unfolding takes_text
    text-bad h = rw first (simp (over-limit-passes 16384 (length text) short, bad-code-point-refuses text (rw first at h)))

    pub text-taken : length text ≤ b → takes_text text ≡ passes
    unfolding takes_text
    text-taken h = simp (over-limit-passes 16384 (length text) short, bad-code-point-passes text (rw first at h))

  -- back: a text that is taken is within the limit
  pub text-short : takes_text text ≡ passes → length text ≤ 16384
  unfolding takes_text
  text-short e = over-limit-kept 16384 (length text) (order-first (over_limit 16384 (length text)) (bad_code_point text ∷ []) e)

-- ---- a text with no bad code point

pub good-taken : (text : List ℕ) → length text ≤ 16384 → All (λ c. bad c ≡ false) text → takes_text text ≡ passes
good-taken text short good = text-taken text short refl (omega (arith, first-none bad good))

-- ---- a text of code units: 1

module _ (units : List ℕ) where
  pub units-over : 16384 < length units → takes_units units ≡ refuses 1 16384
  unfolding takes_units
  units-over h = over-limit-refuses 16384 (length units) h

  pub units-taken : length units ≤ 16384 → takes_units units ≡ passes
  unfolding takes_units
  units-taken h = over-limit-passes 16384 (length units) h

  pub units-short : takes_units units ≡ passes → length units ≤ 16384
  unfolding takes_units
  units-short e = over-limit-kept 16384 (length units) e

-- ---- back: a code point that is not bad, and a text that is taken

pub good-most : (c : ℕ) → bad c ≡ false → c ≤ 0x10FFFF
unfolding bad
good-most c e = ltb-false 0x10FFFF c (or_left (ltb 0x10FFFF c) (within 0xD800 0xDFFF c) e)

pub good-gap : (c : ℕ) → bad c ≡ false → (c < 0xD800) ⊎ (0xDFFF < c)
unfolding bad
good-gap c e = within-not 0xD800 0xDFFF c (or_right (ltb 0x10FFFF c) (within 0xD800 0xDFFF c) e)

pub taken-all : (text : List ℕ) → takes_text text ≡ passes → All (λ c. bad c ≡ false) text
taken-all text e =
    test (ltb (first_bad text) (length text))
    (λ h. absurd (passes-refuses (sym e ∙ text-bad text (text-short text e) refl (ltb-true (first_bad text) (length text) h))))
    (λ h. none_first bad text (ltb-false (first_bad text) (length text) h))

pub taken-good : (text : List ℕ) → takes_text text ≡ passes → (i : ℕ) → i < length text → bad (get_or text i 0) ≡ false
taken-good text e i h = all-at 0 (taken-all text e) i h

pub taken-most : (text : List ℕ) → takes_text text ≡ passes → (i : ℕ) → i < length text → get_or text i 0 ≤ 0x10FFFF
taken-most text e i h = good-most (get_or text i 0) (taken-good text e i h)
