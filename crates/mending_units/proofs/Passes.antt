-- Units that pass: parts of a text that stand in the mended text as they stand in the text. In
-- order: a quiet unit is well-formed (`quiet-full`) and no letter (`quiet-apart`); one below 1100
-- passes whatever follows (`plain_passes`), and so do four (`plain-four`, tested in one number:
-- `four-plain`); any quiet unit passes if no letter follows (`quiet-passes`); so does a run of them
-- (`trails-more`, and at its end `trails_none`, `trails-apart`, `trails-plain`, `trails-back`); and
-- a surrogate pair (`pair-passes`).
use mathlib.Core.Path.{◌≡◌, refl, ◌∙◌, ap}
use mathlib.Core.Bool.{true, false, not}
use mathlib.Core.Logic.{⊎_elim}
use mathlib.Core.List.{List, [], ◌∷◌}
use Prim.Native.Nat.{ℕ, ◌+◌, ◌-◌, ◌*◌, ◌/◌, ◌%◌, ◌^◌, ◌≤◌, ◌<◌}
use native.Mathlib.Omega.{arith}
use lib.Bits.{bit_and}
use lib.Dec.{eqb}
use lib.ListN.{length, get_or, drop}
use borrow.Author.Tests.{eqb-true, not-true}
use Rattle.laws.specs.Ranges.{within}
use Rattle.laws.proofs.Bools.{and_left, and_right}
use Rattle.laws.proofs.Lists.{at-index, at-index-to}
use Rattle.laws.proofs.Ranges.{within-least, within-most, within-not}
use Rattle.joining.specs.Roles.{pair}
use Rattle.joining.proofs.Roles.{role-between, peak-range, final-range}
use Rattle.joining.proofs.Pairs.{pair-before, pair-none}
use Rattle.encodings.specs.Pieces.{full}
use Rattle.encodings.specs.Rows.{kind_by}
use Rattle.encodings.specs.Forms.{pieces_in}
use Rattle.encodings.specs.Reading.{good_of}
use Rattle.encodings.proofs.Rows.{row-between, row-full, ends, goes, full_by}
use Rattle.utf16.specs.Utf16.{high, low, table_d91, form16}
use Rattle.utf16.proofs.Forms.{encodes16}
use Rattle.mending.specs.Characters.{grown_in}
use Rattle.mending.proofs.Characters.{grown-stops, grown-stays, character-full}
use Rattle.mending.proofs.Turns.{passes_none, passes_on, passes-full}
use Rattle.mending.proofs.FastPaths.{bits_none}
use Rattle.mending_units.specs.Inner.{is_jamo, quiet, four_of, Plain, PassesUnits, Trails, nothing, last}
use Rattle.mending_units.proofs.Units.{code_at, same-within}

-- ---- a unit that is no surrogate

module _ (a : ℕ) (q : quiet a ≡ true) where
  pub quiet-apart : is_jamo a ≡ false
  quiet-apart = not-true (is_jamo a) (and_left (not (is_jamo a)) (not (within 0xD800 0xDFFF a)) q)

  pub quiet-full : a < 0x10000 → kind_by table_d91 (a ∷ []) ≡ full
  quiet-full small =
      ⊎_elim (λ l. row-full table_d91 a (row-between table_d91 0x0000 0xD7FF tt (omega arith) (omega arith)))
      (λ l. row-full table_d91 a (row-between table_d91 0xE000 0xFFFF tt (omega arith) (omega arith)))
      (within-not 0xD800 0xDFFF a (not-true (within 0xD800 0xDFFF a) (and_right (not (is_jamo a)) (not (within 0xD800 0xDFFF a)) q)))

module _ (text : List ℕ) (at : ℕ) (h : at < length text) where
  -- one unit that takes in nothing
  one_passes : kind_by table_d91 (get_or text at 0 ∷ []) ≡ full
      → grown_in form16 (good_of (get_or text at 0) 1) (pieces_in form16 (drop (at + 1) text)) ≡ good_of (get_or text at 0) 1 → PassesUnits text at (at + 1)
  one_passes well stops =
      let a = get_or text at 0 in
      passes-full encodes16 text at (a ∷ []) (at-index 0 text at h) well h (character-full encodes16 text at (a ∷ []) (at-index 0 text at h) well stops)

  -- ---- below 1100

  pub plain_passes : get_or text at 0 < 0x1100 → PassesUnits text at (at + 1)
  plain_passes l =
      let a = get_or text at 0 in
      one_passes (row-full table_d91 a (row-between table_d91 0x0000 0xD7FF tt (omega arith) (omega arith)))
      (grown-stops form16 (good_of a 1) (pieces_in form16 (drop (at + 1) text))
      (λ b. pair-none a b (role-between 0x0000 0x10FF a tt (omega arith) (omega arith))))

  -- ---- before no letter

  -- what is no letter of the block joins with nothing before it
  letter-none : (c : ℕ) → get_or text (at + 1) 0 < 0x10000 → is_jamo (get_or text (at + 1) 0) ≡ false → pair c (code_at text (at + 1)) ≡ 0
  letter-none c small e =
      let out : is_jamo (code_at text (at + 1)) ≡ false = same-within text (at + 1) small 0x1100 0x11FF (omega arith) ∙ e in
      let b = code_at text (at + 1) in
      ⊎_elim (λ l. pair-before c b (λ p. omega (arith, (peak-range b p).0)) (λ f. omega (arith, (final-range b f).0)))
      (λ l. pair-before c b (λ p. omega (arith, (peak-range b p).1)) (λ f. omega (arith, (final-range b f).1))) (within-not 0x1100 0x11FF b out)

  pub quiet-passes : get_or text at 0 < 0x10000 → quiet (get_or text at 0) ≡ true → get_or text (at + 1) 0 < 0x10000 → is_jamo (get_or text (at + 1) 0) ≡ false
      → PassesUnits text at (at + 1)
  quiet-passes unit q small e =
      let a = get_or text at 0 in
      one_passes (quiet-full a q unit) (grown-stays form16 (good_of a 1) text (at + 1) refl (letter-none a small e))

-- ---- four below 1000

-- one unit in front of what passes
plain-on : (text : List ℕ) (at to : ℕ) → to ≡ at + 1 → get_or text at 0 < 0x1000 → {end : ℕ} → PassesUnits text to end → PassesUnits text at end
plain-on text at to e l p = passes_on (plain_passes text at (omega (arith, p.goes.on, p.goes.inside)) (omega arith)) (rw e at p)

pub plain-four : (text : List ℕ) (at : ℕ) → at + 4 ≤ length text
    → Plain (get_or text at 0) (get_or text (at + 1) 0) (get_or text (at + 2) 0) (get_or text (at + 3) 0) → PassesUnits text at (at + 4)
plain-four text at h l =
    plain-on text at (at + 1) (omega arith) l.first
    (plain-on text (at + 1) (at + 2) (omega arith) l.second
    (plain-on text (at + 2) (at + 3) (omega arith) l.third
    (plain-on text (at + 3) (at + 4) (omega arith) l.fourth (passes_none text (at + 4) h))))

-- the four bits of w from 12, 28, .. on are the highest of its units
pub four-plain : {a b c d w : ℕ} → a < 0x10000 → b < 0x10000 → c < 0x10000 → d < 0x10000 → w ≡ four_of a b c d
    → eqb (bit_and w 0xF000F000F000F000) 0 ≡ true → Plain a b c d
four-plain {w = w} ha hb hc hd is q = record {
  first = omega (arith, bits 12 refl);
  second = omega (arith, bits 28 refl);
  third = omega (arith, bits 44 refl);
  fourth = omega (arith, bits 60 refl);
}
  where
    bits : (k : ℕ) → 0xF000F000F000F000 / 2 ^ k % 2 ^ 4 ≡ 2 ^ 4 - 1 → w / 2 ^ k % 2 ^ 4 ≡ 0
    bits k t = bits_none w 0xF000F000F000F000 k 4 (eqb-true (bit_and w 0xF000F000F000F000) 0 q) t

-- ---- A RUN OF QUIET UNITS

module _ {text : List ℕ} {from : ℕ} where
  pub trails-inside : {end : ℕ} → Trails text from end → (from ≤ end) × (end ≤ length text)
  trails-inside (nothing h) = (omega arith, h)
  trails-inside (last at h p u q) = (omega (arith, p.goes.on), omega arith)

  -- one unit more
  pub trails-more : {end : ℕ} → Trails text from end → end < length text → get_or text end 0 < 0x10000 → quiet (get_or text end 0) ≡ true
      → Trails text from (end + 1)
  trails-more (nothing h) k small q = last from k (passes_none text from h) small q
  trails-more (last at h p u r) k small q = last (at + 1) k (passes_on p (quiet-passes text at h u r small (quiet-apart _ q))) small q

  -- ---- at its end

  -- there is none
  pub trails_none : {end : ℕ} → Trails text from end → end ≤ from → PassesUnits text from from
  trails_none (nothing h) e = passes_none text from h
  trails_none (last at h p u q) e = absurd (omega (arith, p.goes.on))

  -- no letter follows
  pub trails-apart : {end : ℕ} → Trails text from end → get_or text end 0 < 0x10000 → is_jamo (get_or text end 0) ≡ false → PassesUnits text from end
  trails-apart (nothing h) small e = passes_none text from h
  trails-apart (last at h p u q) small e = passes_on p (quiet-passes text at h u q small e)

  -- the last one is below 1100
  pub trails-plain : {end : ℕ} → Trails text from end → get_or text (end - 1) 0 < 0x1100 → PassesUnits text from end
  trails-plain (nothing h) l = passes_none text from h
  trails-plain (last at h p u q) l =
      let e : at + 1 - 1 ≡ at = omega arith in
      passes_on p (plain_passes text at h (rw e at l))

  -- the last one is given back
  pub trails-back : {end : ℕ} → Trails text from end → from < end → PassesUnits text from (end - 1)
  trails-back (nothing h) l = absurd (omega arith)
  trails-back (last at h p u q) l =
      let e : at + 1 - 1 ≡ at = omega arith in
      rw e p

-- ---- A SURROGATE PAIR

pub pair-passes : (text : List ℕ) (at : ℕ) → at + 2 ≤ length text → high (get_or text at 0) ≡ true → low (get_or text (at + 1) 0) ≡ true
    → PassesUnits text at (at + 2)
pair-passes text at h x y =
    let a = get_or text at 0 in
    let b = get_or text (at + 1) 0 in
    let l = within-least 0xD800 0xDBFF a x in
    let m = within-most 0xD800 0xDBFF a x in
    let p = within-least 0xDC00 0xDFFF b y in
    let q = within-most 0xDC00 0xDFFF b y in
    let stands : drop at text ≡ a ∷ b ∷ drop (at + 2) text =
    at-index 0 text at (omega arith) ∙ ap (λ (z : List ℕ). a ∷ z) (at-index-to 0 text (at + 1) (at + 2) (omega arith) (omega arith)) in
    let well : kind_by table_d91 (a ∷ b ∷ []) ≡ full = full_by table_d91 a (row-between table_d91 0xD800 0xDBFF tt l m) (goes p q ends) in
    let c = 0x10000 + (a - 0xD800) * 0x400 + (b - 0xDC00) in
    passes-full encodes16 text at (a ∷ b ∷ []) stands well (omega arith)
    (character-full encodes16 text at (a ∷ b ∷ []) stands well
    (grown-stops form16 (good_of c 2) (pieces_in form16 (drop (at + 2) text))
    (λ d. pair-none c d (role-between 0x10000 0x10FFFF c tt (omega arith) (omega arith)))))
