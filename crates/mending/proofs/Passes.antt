-- Bytes that pass: parts of a text that stand in the mended text as they stand in the text.
--
-- In order: ASCII, one byte and eight (`low-character`, `low-passes`, `low-eight`); a letter of the
-- block 1100–11FF begins with E1 (`letter-first`), so before any other byte nothing joins
-- (`apart-after`) and a character of three bytes passes (`three-character`, `three-passes`), also
-- as the last of a text (`three-last`); its first two bytes, tested in one number (`lead-number`,
-- `lead-three`); and the high bits of eight bytes, tested so (`word_low`).
use mathlib.Core.Path.{◌≡◌, refl, sym, ◌∙◌, ap}
use mathlib.Core.Bool.{true}
use mathlib.Core.List.{List, [], ◌∷◌, ◌++◌}
use Prim.Native.Nat.{ℕ, ◌+◌, ◌*◌, ◌/◌, ◌%◌, ◌^◌, ◌≤◌, ◌<◌}
use native.Mathlib.Nat.{add-zero}
use native.Mathlib.Omega.{arith}
use lib.Bits.{bit_and}
use lib.Dec.{ltb, eqb}
use lib.ListN.{length, get_or, drop, get_or-eq_default}
use lib.Seq.{get_or-drop}
use borrow.Author.Tests.{eq-eqb, eqb-true, ltb-true, ltb-false}
use Rattle.laws.specs.Ranges.{within}
use Rattle.laws.proofs.Bools.{test}
use Rattle.laws.proofs.Lists.{at-index, three-at}
use Rattle.laws.proofs.Ranges.{within-least, within-most}
use Rattle.joining.specs.Roles.{pair}
use Rattle.joining.proofs.Roles.{role-between, peak-range, final-range}
use Rattle.joining.proofs.Pairs.{pair-before, pair-none}
use Rattle.encodings.specs.Pieces.{Piece, full, pieces}
use Rattle.encodings.specs.Readings.{Reading, nothing, formed, broken}
use Rattle.encodings.specs.Reading.{good_of}
use Rattle.encodings.proofs.Rows.{row-between, ends, goes, full_by}
use Rattle.encodings.proofs.Texts.{reading-in}
use Rattle.utf8.specs.Table37.{table37, kind_of}
use Rattle.utf8.specs.Utf8.{value_of, form8}
use Rattle.utf8.proofs.Writing.{bytes-three}
use Rattle.utf8.proofs.Round.{encodes8, full-bytes}
use Rattle.mending.specs.Characters.{grown_in, character_from}
use Rattle.mending.specs.Inner.{Passes, Three, Lead, Low, word_of}
use Rattle.mending.proofs.Characters.{apart-ill, grown-stops, character-full}
use Rattle.mending.proofs.Turns.{passes_none, passes_on, passes-full}
use Rattle.mending.proofs.FastPaths.{bits_none}

-- ---- ASCII

module _ (text : List ℕ) (at : ℕ) (h : at < length text) (l : get_or text at 0 < 0x80) where
  low-full : kind_of (get_or text at 0 ∷ []) ≡ full
  low-full = full_by table37 (get_or text at 0) (row-between table37 0x00 0x7F tt (omega arith) (omega arith)) ends

  pub low-character : good_of (get_or text at 0) 1 ≡ character_from (pieces kind_of (drop at text))
  low-character =
      let a = get_or text at 0 in
      character-full encodes8 text at (a ∷ []) (at-index 0 text at h) low-full
      (grown-stops form8 (good_of a 1) (pieces kind_of (drop (at + 1) text)) (λ b. pair-none a b (role-between 0x00 0x7F a tt (omega arith) (omega arith))))

  pub low-passes : Passes text at (at + 1)
  low-passes = passes-full encodes8 text at (get_or text at 0 ∷ []) (at-index 0 text at h) low-full h low-character

-- one byte in front of what passes
low-on : (text : List ℕ) (at to : ℕ) → to ≡ at + 1 → get_or text at 0 < 0x80 → {end : ℕ} → Passes text to end → Passes text at end
low-on text at to e l p = passes_on (low-passes text at (omega (arith, p.goes.on, p.goes.inside)) l) (rw e at p)

pub low-eight : (text : List ℕ) (at : ℕ) → at + 8 ≤ length text
    → Low (get_or text at 0) (get_or text (at + 1) 0) (get_or text (at + 2) 0) (get_or text (at + 3) 0) (get_or text (at + 4) 0) (get_or text (at + 5) 0)
    (get_or text (at + 6) 0) (get_or text (at + 7) 0)
    → Passes text at (at + 8)
low-eight text at h l =
    low-on text at (at + 1) (omega arith) l.first
    (low-on text (at + 1) (at + 2) (omega arith) l.second
    (low-on text (at + 2) (at + 3) (omega arith) l.third
    (low-on text (at + 3) (at + 4) (omega arith) l.fourth
    (low-on text (at + 4) (at + 5) (omega arith) l.fifth
    (low-on text (at + 5) (at + 6) (omega arith) l.sixth
    (low-on text (at + 6) (at + 7) (omega arith) l.seventh
    (low-on text (at + 7) (at + 8) (omega arith) l.eighth (passes_none text (at + 8) h))))))))

-- ---- THREE BYTES, and after them any byte but E1

-- the first byte of a code point from 1000 to 1FFF
pub letter-first : (u t : List ℕ) → kind_of u ≡ full → 0x1000 ≤ value_of u → value_of u < 0x2000 → get_or (u ++ t) 0 0 ≡ 0xE1
letter-first u t f l m =
    let c = value_of u in
    let e : u ≡ (0xE0 + c / 4096) ∷ (0x80 + c / 64 % 64) ∷ (0x80 + c % 64) ∷ [] = sym (full-bytes u f) ∙ bytes-three c (omega arith) (omega arith) in
    ap (λ (x : List ℕ). get_or (x ++ t) 0 0) e ∙ omega arith

-- the letters that join with what stands before them are such: before any other byte a character
-- takes in nothing
apart-reading : (c n : ℕ) {t : List ℕ} {P : List (Piece ℕ)} → Reading kind_of t P → (get_or t 0 0 ≡ 0xE1 → ⊥) → grown_in form8 (good_of c n) P ≡ good_of c n
apart-reading c n nothing h = refl
apart-reading c n (formed u {t} f r) h =
    let no : 0x1000 ≤ value_of u → value_of u < 0x2000 → ⊥ = λ l m. h (letter-first u t f l m) in
    rw (eq-eqb (pair c (value_of u)) 0 (pair-before c (value_of u)
    (λ e. let k = peak-range (value_of u) e in no (omega arith) (omega arith))
    (λ e. let k = final-range (value_of u) e in no (omega arith) (omega arith))))
apart-reading c n (broken u m r) h =
    rw (eq-eqb (pair c 0xFFFD) 0 (apart-ill c))

pub apart-after : (c n : ℕ) (t : List ℕ) → (get_or t 0 0 ≡ 0xE1 → ⊥) → grown_in form8 (good_of c n) (pieces kind_of t) ≡ good_of c n
apart-after c n t h = apart-reading c n (reading-in encodes8 t) h

-- a, b and c are well-formed
three-full : {a b c d : ℕ} → Three a b c d → kind_of (a ∷ b ∷ c ∷ []) ≡ full
three-full {a} {b} {c} h =
    test (ltb a 0xED)
    (λ q.
    full_by table37 a (row-between table37 0xE1 0xEC tt (omega (arith, h.least)) (omega (arith, ltb-true a 0xED q)))
    (goes h.second-least h.second-most (goes h.third-least h.third-most ends)))
    (λ q.
    let e : a ≡ 0xED = omega (arith, h.most, ltb-false a 0xED q) in
    full_by table37 a (row-between table37 0xED 0xED tt (omega arith) (omega arith))
    (goes h.second-least (h.second-ed e) (goes h.third-least h.third-most ends)))

-- they stand in front
module _ (text : List ℕ) (at : ℕ) (h : at + 3 ≤ length text) {d : ℕ} (e : d ≡ get_or text (at + 3) 0)
    (t : Three (get_or text at 0) (get_or text (at + 1) 0) (get_or text (at + 2) 0) d) where
  pub three-character : good_of (value_of (get_or text at 0 ∷ get_or text (at + 1) 0 ∷ get_or text (at + 2) 0 ∷ [])) 3
      ≡ character_from (pieces kind_of (drop at text))
  three-character =
      let u = get_or text at 0 ∷ get_or text (at + 1) 0 ∷ get_or text (at + 2) 0 ∷ [] in
      let next : get_or (drop (at + 3) text) 0 0 ≡ get_or text (at + 3) 0 = get_or-drop (at + 3) text 0 0 ∙ rw add-zero in
      character-full encodes8 text at u (three-at 0 text at h) (three-full t)
      (apart-after (value_of u) 3 (drop (at + 3) text) (λ z. t.apart (e ∙ sym next ∙ z)))

  pub three-passes : Passes text at (at + 3)
  three-passes =
      passes-full encodes8 text at (get_or text at 0 ∷ get_or text (at + 1) 0 ∷ get_or text (at + 2) 0 ∷ []) (three-at 0 text at h) (three-full t) (omega arith)
      three-character

-- the last three bytes of a text
pub three-last : (text : List ℕ) (at : ℕ) → length text ≡ at + 3 → Three (get_or text at 0) (get_or text (at + 1) 0) (get_or text (at + 2) 0) 0
    → Passes text at (at + 3)
three-last text at h t = three-passes text at (omega arith) (sym (get_or-eq_default text 0 {n = at + 3} (omega arith))) t

-- the first two bytes as one number
pub lead-number : {a b : ℕ} → b < 256 → 0xEA80 ≤ a * 0x100 + b → a * 0x100 + b ≤ 0xED9F → within 0x80 0xBF b ≡ true → Lead a b
lead-number {a} {b} byte l m w = record {
  least = omega arith;
  most = omega arith;
  second-least = within-least 0x80 0xBF b w;
  second-most = within-most 0x80 0xBF b w;
  second-ed = λ e. omega (arith, e);
}

-- and a third after them
pub lead-three : {a b c d : ℕ} → Lead a b → within 0x80 0xBF c ≡ true → (d ≡ 0xE1 → ⊥) → Three a b c d
lead-three {c = c} l w n = record {
  least = l.least;
  most = l.most;
  second-least = l.second-least;
  second-most = l.second-most;
  second-ed = l.second-ed;
  third-least = within-least 0x80 0xBF c w;
  third-most = within-most 0x80 0xBF c w;
  apart = n;
}

-- ---- the test of eight bytes in one number

-- the bits of w at 7, 15, .. are the highest of its bytes
pub word_low : {a b c d e f g h w : ℕ} → a < 256 → b < 256 → c < 256 → d < 256 → e < 256 → f < 256 → g < 256 → h < 256 → w ≡ word_of a b c d e f g h
    → eqb (bit_and w 0x8080808080808080) 0 ≡ true → Low a b c d e f g h
word_low {w = w} ha hb hc hd he hf hg hh is q = record {
  first = omega (arith, bit 7 refl);
  second = omega (arith, bit 15 refl);
  third = omega (arith, bit 23 refl);
  fourth = omega (arith, bit 31 refl);
  fifth = omega (arith, bit 39 refl);
  sixth = omega (arith, bit 47 refl);
  seventh = omega (arith, bit 55 refl);
  eighth = omega (arith, bit 63 refl);
}
  where
    bit : (k : ℕ) → 0x8080808080808080 / 2 ^ k % 2 ≡ 1 → w / 2 ^ k % 2 ≡ 0
    bit k t = bits_none w 0x8080808080808080 k 1 (eqb-true (bit_and w 0x8080808080808080) 0 q) t
