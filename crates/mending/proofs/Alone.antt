-- A character that stands alone, by its bytes. In order: an ill-formed subpart, which takes in
-- nothing: of a byte that begins no sequence (`stray-character`), of one before a second byte that
-- continues nothing (`second-character`), and of two before such a third (`third-character`); a
-- modern peak by its tail (`peak-some`, `peak-none`); the letter of a tail (`of-tail`,
-- `letter-triple`), which is a character where it is no modern initial or has no modern peak after
-- it (`letter-character`).
use mathlib.Core.Path.{◌≡◌, refl, sym, ◌∙◌, ap}
use mathlib.Core.Bool.{true, false}
use mathlib.Core.List.{List, [], ◌∷◌}
use Prim.Native.Nat.{ℕ, suc, ◌+◌, ◌-◌, ◌*◌, ◌/◌, ◌%◌, ◌≤◌, ◌<◌}
use native.Mathlib.Omega.{arith}
use lib.Dec.{ltb, eqb}
use lib.ListN.{length, get_or, drop}
use borrow.Author.Tests.{ltb-true, ltb-false, eqb-true, eqb-false}
use Rattle.laws.specs.Ranges.{within}
use Rattle.laws.proofs.Bools.{test}
use Rattle.laws.proofs.Ranges.{within-yes, within-least, within-most}
use Rattle.encodings.specs.Pieces.{pieces}
use Rattle.encodings.specs.Rows.{◌to◌}
use Rattle.encodings.specs.Reading.{good_of, ill_of}
use Rattle.encodings.specs.declared.answer.Taken.{Taken}
use Rattle.encodings.proofs.Rows.{row-between, row-bad, outside}
use Rattle.encodings.proofs.Taking.{nonzero-inside, begins-between, Stands, goes_on, broken-taken, none-taken}
use Rattle.utf8.specs.Utf8.{form8}
use Rattle.utf8.specs.Table37.{table37, continuation, kind_of}
use Rattle.utf8.specs.Reading.{taken_from}
use Rattle.utf8.proofs.Rows.{begun8}
use Rattle.mending.specs.Characters.{character_from}
use Rattle.mending.specs.Inner.{tail_of, Tail, OfTail, Triple}
use Rattle.mending.proofs.Characters.{character-grown, grown-stays}
use Rattle.mending.proofs.FastPaths.{ill-alone, letter-apart}

-- ---- AN ILL-FORMED SUBPART

module _ (text : List ℕ) (at : ℕ) where
  module _ {first : ℕ} (is : first ≡ get_or text at 0) where
    pub stray-character : 0x80 ≤ first → first < 0xC2 → character_from (pieces kind_of (drop at text)) ≡ ill_of 1
    stray-character l m =
        ill-alone form8 text at (none-taken form8 text at (nonzero-inside text at is (omega arith)) is
        (row-bad table37 first (row-between table37 0x80 0xC1 tt l (omega arith))) refl)

    module _ (l : 0xE1 ≤ first) (m : first ≤ 0xEF) where
      -- three bytes are begun; after ED the second one is 9F at most
      three-begun : {G : Type 0} → (Stands form8 text at first [] (suc at) (continuation ∷ continuation ∷ []) → G)
          → (first ≡ 0xED → Stands form8 text at first [] (suc at) ((0x80 to 0x9F) ∷ continuation ∷ []) → G) → G
      three-begun other ed =
          let h : at < length text = nonzero-inside text at is (omega arith) in
          test (ltb first 0xED)
          (λ q.
          let k : first ≤ 0xEC = omega (arith, ltb-true first 0xED q) in
          other (begun8 (begins-between table37 0xE1 0xEC tt {lo = 0xE1} {hi = 0xEC} h is l k (omega arith) (omega arith))))
          (λ q.
          test (eqb first 0xED)
          (λ p.
          let e : first ≡ 0xED = eqb-true first 0xED p in
          ed e (begun8 (begins-between table37 0xED 0xED tt {lo = 0xED} {hi = 0xED} h is (omega arith) (omega arith) (omega arith) (omega arith))))
          (λ p.
          let k : 0xEE ≤ first = omega (arith, ltb-false first 0xED q, eqb-false first 0xED p) in
          other (begun8 (begins-between table37 0xEE 0xEF tt {lo = 0xEE} {hi = 0xEF} h is k m (omega arith) (omega arith)))))

      module _ {second : ℕ} (second_is : second ≡ get_or text (at + 1) 0) where
        pub second-character : within 0x80 0xBF second ≡ false → character_from (pieces kind_of (drop at text)) ≡ ill_of 1
        second-character w =
            ill-alone form8 text at (three-begun (λ s. broken-taken s second_is (omega arith) w refl)
            (λ e s. broken-taken s second_is (omega arith) (outside 0x80 0xBF 0x80 0x9F second (omega arith) (omega arith) w) refl))

        pub third-character : (first ≡ 0xED → ⊥) → within 0x80 0xBF second ≡ true → {third : ℕ} → third ≡ get_or text (at + 2) 0
            → within 0x80 0xBF third ≡ false → character_from (pieces kind_of (drop at text)) ≡ ill_of 2
        third-character n w third-is v =
            ill-alone form8 text at (three-begun
            (λ s. broken-taken (goes_on s second_is (omega arith) (omega arith) w) third-is (omega arith) v refl) (λ e s. absurd (n e)))

-- ---- a modern peak by its tail

tail-peak : (c : ℕ) → 0x1161 ≤ c → c ≤ 0x1175 → tail_of c ≡ 0x85A1 + (c - 0x1161)
tail-peak c l m =
    let q : c / 64 ≡ 0x45 = omega arith in
    let r : c % 64 ≡ 0x21 + (c - 0x1161) = omega arith in
    rw (q, r) (omega arith)

module _ (text : List ℕ) (at : ℕ) {r : ℕ} (tail : Tail text at r) where
  pub peak-some : 0x85A1 ≤ r → r ≤ 0x85B5 → within 0x1161 0x1175 (taken_from (pieces kind_of (drop at text))).code ≡ true
  peak-some l m =
      let c = 0x1161 + (r - 0x85A1) in
      ap (λ (t : Taken). within 0x1161 0x1175 t.code)
      (tail.is c (omega arith) (omega arith) (omega (arith, tail-peak c (omega arith) (omega arith))))
      ∙ within-yes 0x1161 0x1175 c (omega arith) (omega arith)

  pub peak-none : (0x85A1 ≤ r → r ≤ 0x85B5 → ⊥) → false ≡ within 0x1161 0x1175 (taken_from (pieces kind_of (drop at text))).code
  peak-none h =
      let c = (taken_from (pieces kind_of (drop at text))).code in
      test (within 0x1161 0x1175 c)
      (λ q.
      let l = within-least 0x1161 0x1175 c q in
      let m = within-most 0x1161 0x1175 c q in
      let e : r ≡ tail_of c = tail.only c (omega arith) (omega arith) refl in
      absurd (h (omega (arith, e, tail-peak c l m)) (omega (arith, e, tail-peak c l m))))
      (λ q. sym q)

-- ---- THE LETTER OF A TAIL

tail-parts : (q m : ℕ) → 4 ≤ q → q ≤ 7 → m < 64 → tail_of (0x1000 + q * 64 + m) ≡ (0x80 + q) * 0x100 + (0x80 + m)
tail-parts q m l h k =
    let a : (0x1000 + q * 64 + m) / 64 % 64 ≡ q = omega arith in
    let b : (0x1000 + q * 64 + m) % 64 ≡ m = omega arith in
    rw (a, b)

pub of-tail : (tail : ℕ) → 0x8480 ≤ tail → tail ≤ 0x87BF → 0x80 ≤ tail % 0x100 → tail % 0x100 ≤ 0xBF
    → OfTail tail (good_of (0x1000 + (tail / 0x100 - 0x80) * 64 + (tail % 0x100 - 0x80)) 3)
of-tail tail l h m k =
    let e : (0x80 + (tail / 0x100 - 0x80)) * 0x100 + (0x80 + (tail % 0x100 - 0x80)) ≡ tail = omega arith in
    record {
      is = sym (tail-parts (tail / 0x100 - 0x80) (tail % 0x100 - 0x80) (omega arith) (omega arith) (omega arith) ∙ e);
      least = omega arith;
      most = omega arith;
      whole = refl;
    }

pub letter-triple : {tail : ℕ} {r : Taken} → OfTail tail r → Triple r.code
letter-triple o = record { least = omega (arith, o.least); most = omega (arith, o.most) }

tail-initial : (c : ℕ) → 0x1100 ≤ c → c ≤ 0x1112 → tail_of c ≤ 0x8492
tail-initial c l m =
    let q : c / 64 ≡ 0x44 = omega arith in
    let r : c % 64 ≡ c - 0x1100 = omega arith in
    rw (q, r) (omega arith)

module _ (text : List ℕ) (at : ℕ) {tail : ℕ} (found : Tail text at tail) {r : Taken} (letter : OfTail tail r)
    (after : tail ≤ 0x8492 → within 0x1161 0x1175 (taken_from (pieces kind_of (drop (at + 3) text))).code ≡ false) where
  pub letter-character : r ≡ character_from (pieces kind_of (drop at text))
  letter-character =
      letter.whole
      ∙ sym (character-grown form8 text at (sym (found.is r.code letter.least letter.most letter.is))
      ∙ grown-stays form8 (good_of r.code 3) text (at + 3) refl
      (letter-apart r.code _ letter.most (λ h. after (omega (arith, letter.is, tail-initial r.code letter.least h)))))
