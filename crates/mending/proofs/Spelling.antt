-- A syllable that stands as single letters, by its bytes. In order: the bytes of a letter of the
-- block 1100–11FF at an index, and back (`Letter`, `letter-bytes`, `bytes-letter`); a letter by its
-- tail (`tail-short`, `tail-other`, `tail-three`); F of a final (`final-low`, `final-high`,
-- `final-none`); and a syllable of two letters and of three (`initial-inside`, `spelled-two`,
-- `spelled-three`), by the law of any form (proofs/FastPaths).
use mathlib.Core.Path.{◌≡◌, refl, sym, ◌∙◌, ap}
use mathlib.Core.List.{List, [], ◌∷◌, ◌++◌}
use Prim.Native.Nat.{ℕ, ◌+◌, ◌-◌, ◌*◌, ◌/◌, ◌%◌, ◌≤◌, ◌<◌}
use native.Mathlib.Nat.{add-zero}
use native.Mathlib.Omega.{arith}
use lib.Dec.{ltb}
use lib.Seq.{get_or-drop}
use lib.ListN.{length, get_or, drop, length-drop}
use borrow.Author.Tests.{ltb-true, ltb-false}
use Rattle.laws.proofs.Bools.{test}
use Rattle.laws.proofs.Lists.{three-at}
use Rattle.answers.proofs.Checks.{good-low}
use Rattle.encodings.specs.Pieces.{Piece, pieces}
use Rattle.encodings.specs.Readings.{Reading, nothing, formed, broken}
use Rattle.encodings.specs.Reading.{good_of}
use Rattle.encodings.specs.declared.answer.Taken.{Taken}
use Rattle.encodings.proofs.Texts.{reading-in, units-piece}
use Rattle.utf8.specs.Table37.{kind_of}
use Rattle.utf8.specs.Utf8.{form8, bytes_of}
use Rattle.utf8.specs.Reading.{taken_from}
use Rattle.utf8.proofs.Writing.{bytes-three, long-three}
use Rattle.utf8.proofs.Round.{encodes8, full-bytes, bytes-value}
use Rattle.mending.specs.Characters.{character_from}
use Rattle.mending.specs.Inner.{tail_of, Tail, last_of}
use Rattle.mending.proofs.FastPaths.{last-yes, last-cases, spelled-pair, last-few, spelled-triple}

-- ---- the bytes of a letter

-- at an index stand the three bytes of c
record Letter (text : List ℕ) (at c : ℕ) : Type 0 where
  inside : at + 3 ≤ length text
  first : get_or text at 0 ≡ 0xE1
  second : get_or text (at + 1) 0 ≡ 0x80 + c / 64 % 64
  third : get_or text (at + 2) 0 ≡ 0x80 + c % 64

module _ (c : ℕ) (least : 0x1100 ≤ c) (most : c ≤ 0x11FF) where
  letter-reading : {t : List ℕ} {P : List (Piece ℕ)} → Reading kind_of t P → (taken_from P).code ≡ c → (rest : List ℕ) × (t ≡ bytes_of c ++ rest)
  letter-reading nothing e = absurd (omega arith)
  letter-reading (formed u {t} f r) e = (t, ap (λ (x : List ℕ). x ++ t) (sym (full-bytes u f) ∙ ap bytes_of e))
  letter-reading (broken u m r) e = absurd (omega arith)

  letter-first : bytes_of c ≡ 0xE1 ∷ (0x80 + c / 64 % 64) ∷ (0x80 + c % 64) ∷ []
  letter-first =
      let e : 0xE0 + c / 4096 ≡ 0xE1 = omega arith in
      bytes-three c (omega arith) (omega arith) ∙ rw e

  module _ (text : List ℕ) (at : ℕ) where
    letter-stands : (rest : List ℕ) → drop at text ≡ bytes_of c ++ rest → Letter text at c
    letter-stands rest q =
        let e : drop at text ≡ 0xE1 ∷ (0x80 + c / 64 % 64) ∷ (0x80 + c % 64) ∷ rest = rw letter-first at q in
        record {
          inside = omega (arith, length-drop at text, ap length e);
          first = ap (λ (k : ℕ). get_or text k 0) (sym (add-zero at)) ∙ sym (get_or-drop at text 0 0) ∙ ap (λ (l : List ℕ). get_or l 0 0) e;
          second = sym (get_or-drop at text 1 0) ∙ ap (λ (l : List ℕ). get_or l 1 0) e;
          third = sym (get_or-drop at text 2 0) ∙ ap (λ (l : List ℕ). get_or l 2 0) e;
        }

    letter-bytes : (taken_from (pieces kind_of (drop at text))).code ≡ c → Letter text at c
    letter-bytes e =
        let r = letter-reading (reading-in encodes8 (drop at text)) e in
        letter-stands r.0 r.1

    letter-taken-inside : good_of c 3 ≡ taken_from (pieces kind_of (drop at text)) → at + 3 ≤ length text
    letter-taken-inside e = (letter-bytes (sym (ap (λ (t : Taken). t.code) e))).inside

    bytes-letter : Letter text at c → taken_from (pieces kind_of (drop at text)) ≡ good_of c 3
    bytes-letter l =
        let s : drop at text ≡ bytes_of c ++ drop (at + 3) text =
        three-at 0 text at l.inside ∙ rw (l.first, l.second, l.third, letter-first) in
        ap (λ (x : List ℕ). taken_from (pieces kind_of x)) s ∙ ap taken_from (units-piece encodes8 c (good-low c (omega arith)) (drop (at + 3) text))
        ∙ rw (bytes-value c, ← (long-three c (omega arith) (omega arith)))

-- ---- a letter by its tail

module _ (text : List ℕ) (at : ℕ) where
  -- 0 is no letter's tail: so it is where no letter stands
  tail_none : ((c : ℕ) → 0x1100 ≤ c → c ≤ 0x11FF → Letter text at c → ⊥) → Tail text at 0
  tail_none never = record {
    is = λ c l m e. absurd (omega arith);
    only = λ c l m e. absurd (never c l m (letter-bytes c l m text at e));
  }

  pub tail-short : length text - at < 3 → Tail text at 0
  tail-short h = tail_none (λ c l m s. omega (arith, s.inside))

  pub tail-other : (get_or text at 0 ≡ 0xE1 → ⊥) → Tail text at 0
  tail-other h = tail_none (λ c l m s. h s.first)

  pub tail-three : at + 3 ≤ length text → get_or text at 0 ≡ 0xE1 → get_or text (at + 1) 0 < 256 → get_or text (at + 2) 0 < 256
      → Tail text at (get_or text (at + 1) 0 * 0x100 + get_or text (at + 2) 0)
  tail-three h e b d = record {
    is = λ c l m q. bytes-letter c l m text at (record { inside = h; first = e; second = omega arith; third = omega arith });
    only = λ c l m q. let s = letter-bytes c l m text at q in omega (arith, s.second, s.third);
  }

-- ---- F of a final

-- the finals' tails are two ranges
tail-low : (c : ℕ) → 0x11A8 ≤ c → c ≤ 0x11BF → tail_of c ≡ 0x86A8 + (c - 0x11A8)
tail-low c l m =
    let q : c / 64 ≡ 0x46 = omega arith in
    let r : c % 64 ≡ 0x28 + (c - 0x11A8) = omega arith in
    rw (q, r) (omega arith)

tail-high : (c : ℕ) → 0x11C0 ≤ c → c ≤ 0x11C2 → tail_of c ≡ 0x8780 + (c - 0x11C0)
tail-high c l m =
    let q : c / 64 ≡ 0x47 = omega arith in
    let r : c % 64 ≡ c - 0x11C0 = omega arith in
    rw (q, r) (omega arith)

module _ (text : List ℕ) (at : ℕ) {r : ℕ} (tail : Tail text at r) where
  final-some : (c : ℕ) → 0x11A8 ≤ c → c ≤ 0x11C2 → r ≡ tail_of c → last_of (taken_from (pieces kind_of (drop at text))).code ≡ c - 0x11A7
  final-some c l m e = ap (λ (t : Taken). last_of t.code) (tail.is c (omega arith) (omega arith) e) ∙ last-yes c l m

  pub final-low : 0x86A8 ≤ r → r ≤ 0x86BF → r - 0x86A7 ≡ last_of (taken_from (pieces kind_of (drop at text))).code
  final-low l m =
      let c = 0x11A8 + (r - 0x86A8) in
      omega (arith, final-some c (omega arith) (omega arith) (omega (arith, tail-low c (omega arith) (omega arith))))

  pub final-high : 0x8780 ≤ r → r ≤ 0x8782 → r - 0x8780 + 25 ≡ last_of (taken_from (pieces kind_of (drop at text))).code
  final-high l m =
      let c = 0x11C0 + (r - 0x8780) in
      omega (arith, final-some c (omega arith) (omega arith) (omega (arith, tail-high c (omega arith) (omega arith))))

  -- no tail of a final
  pub final-none : (0x86A8 ≤ r → r ≤ 0x86BF → ⊥) → (0x8780 ≤ r → r ≤ 0x8782 → ⊥) → 0 ≡ last_of (taken_from (pieces kind_of (drop at text))).code
  final-none low high =
      let c = (taken_from (pieces kind_of (drop at text))).code in
      last-cases c
      (λ l m.
      let e : r ≡ tail_of c = tail.only c (omega arith) (omega arith) refl in
      test (ltb c 0x11C0)
      (λ q.
      let h = ltb-true c 0x11C0 q in
      absurd (low (omega (arith, e, tail-low c l (omega arith))) (omega (arith, e, tail-low c l (omega arith)))))
      (λ q.
      let h = ltb-false c 0x11C0 q in
      absurd (high (omega (arith, e, tail-high c h m)) (omega (arith, e, tail-high c h m)))))
      (λ e. sym e)

-- ---- a syllable in letters: a is the tail of an initial at an index, b that of a peak after it

module _ (text : List ℕ) (at : ℕ) {a : ℕ} (first : Tail text at a) (a-least : 0x8480 ≤ a) (a-most : a ≤ 0x8492) where
  initial-taken : good_of (0x1100 + (a - 0x8480)) 3 ≡ taken_from (pieces kind_of (drop at text))
  initial-taken =
      let q : (0x1100 + (a - 0x8480)) / 64 ≡ 0x44 = omega arith in
      let m : (0x1100 + (a - 0x8480)) % 64 ≡ a - 0x8480 = omega arith in
      sym (first.is (0x1100 + (a - 0x8480)) (omega arith) (omega arith) (rw (q, m) (omega arith)))

  pub initial-inside : at + 3 ≤ length text
  initial-inside = letter-taken-inside _ (omega arith) (omega arith) text at initial-taken

  module _ {b : ℕ} (second : Tail text (at + 3) b) (b-least : 0x85A1 ≤ b) (b-most : b ≤ 0x85B5) where
    peak-taken : good_of (0x1161 + (b - 0x85A1)) 3 ≡ taken_from (pieces kind_of (drop (at + 3) text))
    peak-taken =
        let q : (0x1161 + (b - 0x85A1)) / 64 ≡ 0x45 = omega arith in
        let m : (0x1161 + (b - 0x85A1)) % 64 ≡ 0x21 + (b - 0x85A1) = omega arith in
        sym (second.is (0x1161 + (b - 0x85A1)) (omega arith) (omega arith) (rw (q, m) (omega arith)))

    -- f is F of what stands after them
    module _ {f : ℕ} (found : f ≡ last_of (taken_from (pieces kind_of (drop (at + 6) text))).code) where
      six : at + 6 ≡ at + 3 + 3
      six = omega arith

      pub spelled-two : f ≡ 0 → good_of (0xAC00 + (a - 0x8480) * 588 + (b - 0x85A1) * 28) 6 ≡ character_from (pieces kind_of (drop at text))
      spelled-two e =
          spelled-pair form8 3 text at (a - 0x8480) (b - 0x85A1) (omega arith) (omega arith) initial-taken peak-taken (rw six at found) e

      -- it is the final 11A7 + f
      last_taken : (f ≡ 0 → ⊥) → good_of (0x11A7 + f) 3 ≡ taken_from (pieces kind_of (drop (at + 6) text))
      last_taken h =
          let c = (taken_from (pieces kind_of (drop (at + 6) text))).code in
          last-cases c
          (λ l m.
          let e : 0x11A7 + f ≡ c = omega (arith, found, last-yes c l m) in
          rw e (sym (bytes-letter c (omega arith) (omega arith) text (at + 6) (letter-bytes c (omega arith) (omega arith) text (at + 6) refl))))
          (λ z. absurd (h (found ∙ z)))

      pub last-small : f < 28
      last-small =
          last-few form8 3 text at (a - 0x8480) (b - 0x85A1) (omega arith) (omega arith) initial-taken peak-taken (rw six at found)

      pub spelled-three : (f ≡ 0 → ⊥) → good_of (0xAC00 + (a - 0x8480) * 588 + (b - 0x85A1) * 28 + f) 9 ≡ character_from (pieces kind_of (drop at text))
      spelled-three h =
          spelled-triple form8 3 text at (a - 0x8480) (b - 0x85A1) (omega arith) (omega arith) initial-taken peak-taken (rw six at found) h
          (rw six at (last_taken h))
