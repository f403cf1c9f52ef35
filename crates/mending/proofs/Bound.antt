-- How long it is what the joined characters of a text give: at most b for each unit of the text,
-- where a code point gives at most b for each of its own units, U+FFFD no more than b, and what two
-- join to no more than b for each unit of the second (`Bounded`, `each-most`). In any encoding
-- form. So a mended text of bytes has at most three bytes for each byte of the text
-- (`mended-most`): what grows is an ill-formed part of one byte or two, which becomes the three
-- bytes of U+FFFD.
--
-- It has: the bounds of one code point (`Bounded`); code points that are covered by so many units
-- (`Covers`), as those are that a text reads as (`reading-covers`); what joins gives no more
-- (`second-letter`, `pair-most`, `joined-covered`); the bound (`each-most`); and at UTF-8, where
-- the bounds of single code points are enough (`bounded8`, `mended-most`).
use mathlib.Core.Path.{◌≡◌, refl, ap}
use mathlib.Core.Bool.{false}
use mathlib.Core.List.{List, [], ◌∷◌}
use Prim.Native.Nat.{ℕ, ◌+◌, ◌*◌, ◌≤◌}
use native.Mathlib.Nat.{mul-add, mul-le-mul_left, le-mul_of_pos_right, le_trans}
use native.Mathlib.Omega.{arith}
use lib.ListN.{length, length-append}
use Rattle.laws.specs.Lists.{each}
use Rattle.laws.proofs.Lists.{each_nil, each-cons}
use Rattle.answers.specs.Checks.{bad}
use Rattle.letters.proofs.Steps.{syllable-least, syllable-most}
use Rattle.joining.specs.Roles.{pair}
use Rattle.joining.specs.Joining.{join}
use Rattle.joining.specs.Grouping.{Grouped, none, alone, two, three}
use Rattle.joining.proofs.Roles.{peak-range, final-range}
use Rattle.joining.proofs.Pairs.{by-pair, pair-syllable, pair-good}
use Rattle.joining.proofs.Joins.{neighbours}
use Rattle.encodings.specs.Pieces.{Piece}
use Rattle.encodings.specs.Readings.{Reading, nothing, formed, broken}
use Rattle.encodings.specs.Damage.{codes}
use Rattle.encodings.specs.Forms.{Form, Encodes, read_in}
use Rattle.encodings.proofs.Texts.{reading-in}
use Rattle.utf8.specs.Utf8.{bytes_of, form8}
use Rattle.utf8.proofs.Writing.{long-three}
use Rattle.utf8.proofs.Round.{encodes8}
use Rattle.mending.specs.Mending.{mended_in, mended}

-- what g gives of a code point, of U+FFFD, which may stand for one unit, and of what two join to
pub record Bounded (f : Form) (g : ℕ → List ℕ) (b : ℕ) : Type 0 where
  pub of_code : (c : ℕ) → bad c ≡ false → length (g c) ≤ b * length (f.units c)
  pub of-ill : length (g 0xFFFD) ≤ b
  pub of-joined : (a c : ℕ) → (pair a c ≡ 0 → ⊥) → length (g (pair a c)) ≤ b * length (f.units c)

-- so many units cover a list of code points: each code point has k of them and gives at most b for
-- each, and they are no fewer than its own where it is not U+FFFD
data Covers (f : Form) (g : ℕ → List ℕ) (b : ℕ) : List ℕ → ℕ → Type 0 where
  nobody : Covers f g b [] 0
  with-units : {c : ℕ} {x : List ℕ} (k : ℕ) {n : ℕ} → length (g c) ≤ b * k → ((c ≡ 0xFFFD → ⊥) → length (f.units c) ≤ k) → Covers f g b x n
      → Covers f g b (c ∷ x) (k + n)

-- the second of two that join is a letter
second-letter : (a c : ℕ) → (pair a c ≡ 0 → ⊥) → (0x1161 ≤ c) × (c ≤ 0x11C2)
second-letter a c n =
    by-pair a c (λ p q. ((peak-range c q).0, omega (arith, (peak-range c q).1))) (λ p q. (omega (arith, (final-range c q).0), (final-range c q).1))
    (λ z. absurd (n z))

module _ {f : Form} (enc : Encodes f) (g : ℕ → List ℕ) (b : ℕ) (bounded : Bounded f g b) where
  -- ---- what a text reads as is covered by its units

  reading-covers : {t : List ℕ} {P : List (Piece ℕ)} → Reading f.encoding.kind t P → Covers f g b (codes f.encoding P) (length t)
  reading-covers nothing = nobody
  reading-covers (formed u e r) =
      let same = ap length (enc.full-units u e) in
      let most = rw same at (bounded.of_code (f.encoding.code u) (enc.full-good u e)) in
      rw length-append (with-units {c = f.encoding.code u} (length u) most (λ n. omega arith) (reading-covers r))
  reading-covers (broken u m r) =
      let most = le_trans bounded.of-ill (le-mul_of_pos_right b m.some) in
      rw length-append (with-units {c = 0xFFFD} (length u) most (λ n. absurd (n refl)) (reading-covers r))

  -- ---- what joins gives no more

  more : (c : ℕ) (y : List ℕ) (k n all : ℕ) → length (g c) ≤ b * k → length (each g y) ≤ b * n → all ≡ k + n → length (each g (c ∷ y)) ≤ b * all
  more c y k n all h l e = rw (e, each-cons g c y, length-append, mul-add) (omega arith)

  -- what two join to, where the second has j of k units
  pair-most : (a c j k : ℕ) → (pair a c ≡ 0 → ⊥) → ((c ≡ 0xFFFD → ⊥) → length (f.units c) ≤ j) → j ≤ k → length (g (pair a c)) ≤ b * k
  pair-most a c j k n own h =
      let l = second-letter a c n in
      le_trans (bounded.of-joined a c n) (mul-le-mul_left b (le_trans (own (omega (arith, l.1))) h))

  joined-covered : {x y : List ℕ} {n : ℕ} → Grouped x y → Covers f g b x n → length (each g y) ≤ b * n
  joined-covered none nobody = rw (each_nil g) (omega arith)
  joined-covered (alone a {y = y} r) (with-units k {n} long own v) = more a y k n (k + n) long (joined-covered r v) refl
  joined-covered (two a c {y = y} m r) (with-units k long own (with-units j {n} long₂ own₂ v)) =
      more (pair a c) y (k + j) n (k + (j + n)) (pair-most a c j (k + j) m own₂ (omega arith)) (joined-covered r v) (omega arith)
  joined-covered (three a c d {y = y} m l r) (with-units k long own (with-units j long₂ own₂ (with-units i {n} long₃ own₃ v))) =
      more (pair (pair a c) d) y (k + j + i) n (k + (j + (i + n))) (pair-most (pair a c) d i (k + j + i) l own₃ (omega arith)) (joined-covered r v)
      (omega arith)

  -- WHAT EACH JOINED CHARACTER OF A TEXT GIVES IS TOGETHER AT MOST b FOR EACH UNIT OF THE TEXT
  pub each-most : (t : List ℕ) → length (each g (join (read_in f t))) ≤ b * length t
  each-most t = joined-covered (neighbours (read_in f t)) (reading-covers (reading-in enc t))

-- ---- at UTF-8: a syllable and the second of two that join have three bytes each

pub bounded8 : (g : ℕ → List ℕ) (b : ℕ) → ((c : ℕ) → bad c ≡ false → length (g c) ≤ b * length (bytes_of c)) → length (g 0xFFFD) ≤ b → Bounded form8 g b
bounded8 g b of_code of-ill = record { of_code = of_code; of-ill = of-ill; of-joined = of-joined }
  where
    of-joined : (a c : ℕ) → (pair a c ≡ 0 → ⊥) → length (g (pair a c)) ≤ b * length (bytes_of c)
    of-joined a c n =
        let s = pair-syllable a c n in
        let l = second-letter a c n in
        let joined = long-three (pair a c) (omega (arith, syllable-least (pair a c) s)) (omega (arith, syllable-most (pair a c) s)) in
        let second = long-three c (omega (arith, l.0)) (omega (arith, l.1)) in
        rw (← second) (rw (← joined) at (of_code (pair a c) (pair-good a c n)))

-- A MENDED TEXT HAS AT MOST THREE TIMES AS MANY BYTES
pub mended-most : (t : List ℕ) → length (mended t) ≤ 3 * length t
unfolding mended_in
mended-most t =
    each-most encodes8 bytes_of 3 (bounded8 bytes_of 3 (λ c g. omega arith) (omega (arith, long-three 0xFFFD (omega arith) (omega arith)))) t
