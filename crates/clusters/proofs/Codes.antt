-- The codes that have a row. In order: numbers that follow each other (`numbers-at`,
-- `numbers-first`, `numbers-later`); the number of a code's row (`Numbered`), by the range that the
-- code lies in (`in_table`, `in-initials`, `in-peaks`, `in-finals`) and by cases (`has-number`);
-- the codes of the tables have rows (`codes-have-rows`); where there is no row (`row-off`,
-- `before-table` and the like), and so no row below 1100 (`row-least`), none of a syllable
-- (`row-beside`), and a letter or filler nowhere else (`off-neither`).
use mathlib.Core.Path.{◌≡◌, refl, sym, ◌∙◌, ap}
use mathlib.Core.Bool.{true, false, ◌||◌, true≢false}
use mathlib.Core.Logic.{⊎_elim}
use mathlib.Core.List.{List, ◌++◌}
use Prim.Native.Nat.{ℕ, zero, suc, ◌+◌, ◌-◌, ◌≤◌, ◌<◌}
use native.Mathlib.Omega.{arith}
use lib.Dec.{T, ltb}
use lib.ListN.{length, get_or, get_or-append}
use lib.Seq.{get_or-append-add}
use borrow.Author.Tests.{ltb-true, ltb-false}
use Rattle.laws.specs.Lists.{All}
use Rattle.laws.specs.Ranges.{within}
use Rattle.laws.proofs.Bools.{test, T_true, or_left, or_right}
use Rattle.laws.proofs.Ranges.{within-below, within-above, within-least, within-most, within-not}
use Rattle.laws.proofs.Lists.{all-at}
use Rattle.laws.proofs.Strings.{every-all}
use Rattle.laws.proofs.Tables.{every}
use Rattle.letters.specs.Sorts.{class_of, neither}
use Rattle.letters.specs.Syllables.{is_syllable}
use Rattle.letters.proofs.Sorts.{class-between, class-above}
use Rattle.clusters.specs.Table.{has_row}
use Rattle.clusters.specs.Rows.{numbers_from, extended_codes, row_codes, row_code}

-- ---- numbers that follow each other

pub numbers-length : (n lo : ℕ) → length (numbers_from lo n) ≡ n
unfolding numbers_from
numbers-length zero lo = refl
numbers-length (suc n) lo = ap suc (numbers-length n (suc lo))

pub numbers-at : (n lo k : ℕ) → k < n → get_or (numbers_from lo n) k 0 ≡ lo + k
unfolding numbers_from
numbers-at zero lo k h = absurd (omega arith)
numbers-at (suc n) lo zero h = omega arith
numbers-at (suc n) lo (suc k) h = let e : suc lo + k ≡ lo + suc k = omega arith in numbers-at n (suc lo) k (omega arith) ∙ e

module _ (lo n : ℕ) (back : List ℕ) where
  -- one of them, and an index after them
  numbers-first : (c : ℕ) → lo ≤ c → c < lo + n → get_or (numbers_from lo n ++ back) (c - lo) 0 ≡ c
  numbers-first c l h =
      let e : lo + (c - lo) ≡ c = omega arith in
      get_or-append (numbers_from lo n) back 0 (c - lo) (rw numbers-length (omega arith)) ∙ numbers-at n lo (c - lo) (omega arith) ∙ e

  numbers-later : (k : ℕ) → get_or (numbers_from lo n ++ back) (n + k) 0 ≡ get_or back k 0
  numbers-later k = rw (numbers-length n lo) at (get_or-append-add (numbers_from lo n) back k 0)

-- ---- the number of a code's row

pub record Numbered (c k : ℕ) : Type 0 where
  pub small : k < 357
  pub code : row_code k ≡ c

pub codes-length : length row_codes ≡ 357
unfolding numbers_from
codes-length = refl

abbrev after_initials : List ℕ
after_initials = numbers_from 0xD7B0 23 ++ numbers_from 0xD7CB 49

module _ (c : ℕ) where
  pub in_table : 0x1100 ≤ c → c ≤ 0x11FF → Numbered c (c - 0x1100)
  in_table l h = record { small = omega arith; code = numbers-first 0x1100 256 extended_codes c l (omega arith) }

  pub in-initials : 0xA960 ≤ c → c ≤ 0xA97C → Numbered c (256 + (c - 0xA960))
  in-initials l h = record {
    small = omega arith;
    code = numbers-later 0x1100 256 extended_codes (c - 0xA960) ∙ numbers-first 0xA960 29 after_initials c l (omega arith);
  }

  pub in-peaks : 0xD7B0 ≤ c → c ≤ 0xD7C6 → Numbered c (285 + (c - 0xD7B0))
  in-peaks l h =
      let e : 285 + (c - 0xD7B0) ≡ 256 + (29 + (c - 0xD7B0)) = omega arith in
      record {
        small = omega arith;
        code =
            ap row_code e ∙ numbers-later 0x1100 256 extended_codes (29 + (c - 0xD7B0)) ∙ numbers-later 0xA960 29 after_initials (c - 0xD7B0)
            ∙ numbers-first 0xD7B0 23 (numbers_from 0xD7CB 49) c l (omega arith);
      }

  pub in-finals : 0xD7CB ≤ c → c ≤ 0xD7FB → Numbered c (308 + (c - 0xD7CB))
  in-finals l h =
      let e : 308 + (c - 0xD7CB) ≡ 256 + (29 + (23 + (c - 0xD7CB))) = omega arith in
      let back : 0xD7CB + (c - 0xD7CB) ≡ c = omega arith in
      record {
        small = omega arith;
        code =
            ap row_code e ∙ numbers-later 0x1100 256 extended_codes (29 + (23 + (c - 0xD7CB))) ∙ numbers-later 0xA960 29 after_initials (23 + (c - 0xD7CB))
            ∙ numbers-later 0xD7B0 23 (numbers_from 0xD7CB 49) (c - 0xD7CB) ∙ numbers-at 49 0xD7CB (c - 0xD7CB) (omega arith) ∙ back;
      }

  -- EVERY CODE THAT HAS A ROW HAS ITS NUMBER
  pub has-number : {G : Type 0} → has_row c ≡ true → ((k : ℕ) → Numbered c k → G) → G
  unfolding has_row
  has-number e has =
      test (within 0x1100 0x11FF c) (λ p. has _ (in_table (within-least _ _ c p) (within-most _ _ c p)))
      (λ n.
      test (within 0xA960 0xA97C c) (λ p. has _ (in-initials (within-least _ _ c p) (within-most _ _ c p)))
      (λ m.
      test (within 0xD7B0 0xD7C6 c) (λ p. has _ (in-peaks (within-least _ _ c p) (within-most _ _ c p)))
      (λ o. let p : within 0xD7CB 0xD7FB c ≡ true = simp (n, m, o) at e in has _ (in-finals (within-least _ _ c p) (within-most _ _ c p)))))

-- and the codes of the tables have rows, by a computed test
have-rows : T (every (λ n c. has_row c) 0 row_codes)
unfolding numbers_from has_row within
have-rows = tt

pub codes-have-rows : All (λ c. has_row c ≡ true) row_codes
codes-have-rows = every-all has_row (λ c t. T_true _ t) row_codes 0 have-rows

pub has-row : (c k : ℕ) → Numbered c k → has_row c ≡ true
has-row c k is = rw is.code at (all-at 0 codes-have-rows k (rw codes-length is.small))

-- ---- where there is no row

module _ (c : ℕ) where
  pub row-off : within 0x1100 0x11FF c ≡ false → within 0xA960 0xA97C c ≡ false → within 0xD7B0 0xD7C6 c ≡ false → within 0xD7CB 0xD7FB c ≡ false
      → has_row c ≡ false
  unfolding has_row
  row-off n m o p = simp (n, m, o, p)

  -- before the ranges of codes, between them and after them
  pub before-table : c < 0x1100 → has_row c ≡ false
  before-table h =
      row-off (within-below 0x1100 0x11FF c h) (within-below 0xA960 0xA97C c (omega arith)) (within-below 0xD7B0 0xD7C6 c (omega arith))
      (within-below 0xD7CB 0xD7FB c (omega arith))

  pub before-initials : 0x11FF < c → c < 0xA960 → has_row c ≡ false
  before-initials l h =
      row-off (within-above 0x1100 0x11FF c l) (within-below 0xA960 0xA97C c h) (within-below 0xD7B0 0xD7C6 c (omega arith))
      (within-below 0xD7CB 0xD7FB c (omega arith))

  pub before-peaks : 0xA97C < c → c < 0xD7B0 → has_row c ≡ false
  before-peaks l h =
      row-off (within-above 0x1100 0x11FF c (omega arith)) (within-above 0xA960 0xA97C c l) (within-below 0xD7B0 0xD7C6 c h)
      (within-below 0xD7CB 0xD7FB c (omega arith))

  pub before-finals : 0xD7C6 < c → c < 0xD7CB → has_row c ≡ false
  before-finals l h =
      row-off (within-above 0x1100 0x11FF c (omega arith)) (within-above 0xA960 0xA97C c (omega arith)) (within-above 0xD7B0 0xD7C6 c l)
      (within-below 0xD7CB 0xD7FB c h)

  pub after-finals : 0xD7FB < c → has_row c ≡ false
  after-finals l =
      row-off (within-above 0x1100 0x11FF c (omega arith)) (within-above 0xA960 0xA97C c (omega arith)) (within-above 0xD7B0 0xD7C6 c (omega arith))
      (within-above 0xD7CB 0xD7FB c l)

  pub row-least : has_row c ≡ true → 0x1100 ≤ c
  row-least e = test (ltb c 0x1100) (λ q. absurd (true≢false (sym e ∙ before-table (ltb-true c 0x1100 q)))) (λ q. ltb-false c 0x1100 q)

  pub row-beside : has_row c ≡ true → is_syllable c ≡ false
  unfolding is_syllable
  row-beside e = test (within 0xAC00 0xD7A3 c) (λ q. absurd (true≢false (sym e ∙ among (within-least _ _ c q) (within-most _ _ c q)))) (λ q. q)
    where
      among : 0xAC00 ≤ c → c ≤ 0xD7A3 → has_row c ≡ false
      among l h = before-peaks (omega arith) (omega arith)

  -- what has no row is no letter and no filler
  pub off-neither : has_row c ≡ false → neither ≡ class_of c
  unfolding has_row
  off-neither e =
      let initials = or_right (within 0x1100 0x11FF c) (within 0xA960 0xA97C c || (within 0xD7B0 0xD7C6 c || within 0xD7CB 0xD7FB c)) e in
      let peaks = or_right (within 0xA960 0xA97C c) (within 0xD7B0 0xD7C6 c || within 0xD7CB 0xD7FB c) initials in
      let finals = or_right (within 0xD7B0 0xD7C6 c) (within 0xD7CB 0xD7FB c) peaks in
      ⊎_elim (λ h. class-between 0 0x10FF tt (omega arith) (omega (arith, h)))
      (λ l.
      ⊎_elim (λ h. class-between 0x1200 0xA95F tt (omega (arith, l)) (omega (arith, h)))
      (λ l.
      ⊎_elim (λ h. class-between 0xA97D 0xD7AF tt (omega (arith, l)) (omega (arith, h)))
      (λ l.
      ⊎_elim (λ h. class-between 0xD7C7 0xD7CA tt (omega (arith, l)) (omega (arith, h))) (λ l. sym (class-above c l))
      (within-not 0xD7CB 0xD7FB c finals))
      (within-not 0xD7B0 0xD7C6 c (or_left _ _ peaks)))
      (within-not 0xA960 0xA97C c (or_left _ _ initials)))
      (within-not 0x1100 0x11FF c (or_left _ _ e))
