-- How many code points have each sort: the counts of document 01 and of document 02, #106, as
-- statements about the definition over all of 0 to 10FFFF. Where the sorts change, among the
-- letters and among the syllables, antt counts; elsewhere all are other. In order: where a test
-- that other code points fail can pass (`four-places`), and one that syllables fail
-- (`letters-only`); the counts; the letters that #106 adds (`new-letters`, `new-counted`).
use mathlib.Core.Path.{◌≡◌, refl, sym}
use mathlib.Core.Bool.{Bool, false, not, ◌&&◌, ◌||◌}
use Prim.Native.Nat.{ℕ, ◌+◌, ◌-◌, ◌%◌, ◌≤◌}
use native.Mathlib.Omega.{arith}
use lib.Dec.{eqb}
use borrow.Author.Tests.{eqb-true, eqb-false}
use Rattle.laws.specs.Lists.{count}
use Rattle.laws.specs.Ranges.{within}
use Rattle.laws.proofs.Bools.{test, and-not-right}
use Rattle.laws.proofs.Lists.{count_none, count-append}
use Rattle.laws.proofs.Ranges.{within-yes, within-above}
use Rattle.letters.specs.declared.sort.Make.TheVariants.{Simple, Cluster}
use Rattle.letters.specs.declared.sort.Sort.{Sort}
use Rattle.letters.specs.declared.sort.Sort.TheVariants.{ModernInitial, OldInitial, InitialFiller, PeakFiller, ModernPeak, OldPeak, ModernFinal, OldFinal, Lv, Lvt, Other}
use Rattle.letters.specs.Sorts.{class_of, make_of, sort_of, sort_number, has_sort, how_many}
use Rattle.letters.proofs.Sorts.{sort-between, sort-lv, sort-lvt}

-- ---- where a test can pass

-- how often among the letters: 1100–11FF, A960–A97C and D7B0–D7FB
abbrev among_letters : (ℕ → Bool) → ℕ
among_letters f = count f 0x1100 0x100 + count f 0xA960 29 + count f 0xD7B0 76

module _ (f : ℕ → Bool) (no_other : (c : ℕ) → sort_of c ≡ Other → f c ≡ false) where
  below_none : count f 0 0x1100 ≡ 0
  below_none = count_none f 0x1100 0 (λ c l h. no_other c (sym (sort-between 0 0x10FF tt l (omega arith))))

  before-initials-none : count f 0x1200 0x9760 ≡ 0
  before-initials-none = count_none f 0x9760 0x1200 (λ c l h. no_other c (sym (sort-between 0x1200 0xA95F tt l (omega arith))))

  after-initials-none : count f 0xA97D 0x283 ≡ 0
  after-initials-none = count_none f 0x283 0xA97D (λ c l h. no_other c (sym (sort-between 0xA97D 0xABFF tt l (omega arith))))

  after-syllables-none : count f 0xD7A4 12 ≡ 0
  after-syllables-none = count_none f 12 0xD7A4 (λ c l h. no_other c (sym (sort-between 0xD7A4 0xD7AF tt l (omega arith))))

  above-none : count f 0xD7FC 0x102804 ≡ 0
  above-none = count_none f 0x102804 0xD7FC (λ c l h. no_other c (sym (sort-between 0xD7FC 0x10FFFF tt l (omega arith))))

  -- only letters and syllables pass
  four-places : count f 0 0x110000 ≡ among_letters f + count f 0xAC00 11172
  four-places =
      omega (
        arith,
        count-append f 0x1100 0x10EF00 0,
        count-append f 0x100 0x10EE00 0x1100,
        count-append f 0x9760 0x1056A0 0x1200,
        count-append f 29 0x105683 0xA960,
        count-append f 0x283 0x105400 0xA97D,
        count-append f 11172 0x10285C 0xAC00,
        count-append f 12 0x102850 0xD7A4,
        count-append f 76 0x102804 0xD7B0,
        below_none,
        before-initials-none,
        after-initials-none,
        after-syllables-none,
        above-none,
      )

  module _ (no-lv : (c : ℕ) → sort_of c ≡ Lv → f c ≡ false) (no-lvt : (c : ℕ) → sort_of c ≡ Lvt → f c ≡ false) where
    syllables-none : count f 0xAC00 11172 ≡ 0
    syllables-none = count_none f 11172 0xAC00 (λ c l h. by c l (omega arith))
      where
        by : (c : ℕ) → 0xAC00 ≤ c → c ≤ 0xD7A3 → f c ≡ false
        by c l h =
            test (eqb ((c - 0xAC00) % 28) 0) (λ e. no-lv c (sym (sort-lv l h (eqb-true _ _ e)))) (λ e. no-lvt c (sym (sort-lvt l h (eqb-false _ _ e))))

    -- only letters pass
    letters-only : {n : ℕ} → among_letters f ≡ n → count f 0 0x110000 ≡ n
    letters-only e = omega (arith, four-places, syllables-none, e)

-- a sort that is neither other nor a syllable's: three tests of numbers, which compute
module _ (s : Sort) where
  apart : (t : Sort) → eqb (sort_number t) (sort_number s) ≡ false → (c : ℕ) → sort_of c ≡ t → has_sort s c ≡ false
  apart t d c e = rw e d

  counted : eqb 16 (sort_number s) ≡ false → eqb 14 (sort_number s) ≡ false → eqb 15 (sort_number s) ≡ false → {n : ℕ}
      → among_letters (has_sort s) ≡ n → how_many s ≡ n
  counted d l m = letters-only (has_sort s) (apart Other d) (apart Lv l) (apart Lvt m)

-- ---- the counts, as antt reckons them where the sorts change

abbrev letters-of : Sort → ℕ
letters-of s = among_letters (has_sort s)

letters-counted : (letters-of (ModernInitial Simple) ≡ 14)
    × (letters-of (ModernInitial Cluster) ≡ 5)
    × (letters-of (OldInitial Simple) ≡ 9)
    × (letters-of (OldInitial Cluster) ≡ 96)
    × (letters-of InitialFiller ≡ 1)
    × (letters-of PeakFiller ≡ 1)
    × (letters-of (ModernPeak Simple) ≡ 10)
    × (letters-of (ModernPeak Cluster) ≡ 11)
    × (letters-of (OldPeak Simple) ≡ 1)
    × (letters-of (OldPeak Cluster) ≡ 72)
    × (letters-of (ModernFinal Simple) ≡ 14)
    × (letters-of (ModernFinal Cluster) ≡ 13)
    × (letters-of (OldFinal Simple) ≡ 3)
    × (letters-of (OldFinal Cluster) ≡ 107)
unfolding count sort_of class_of make_of within
letters-counted = (refl, refl, refl, refl, refl, refl, refl, refl, refl, refl, refl, refl, refl, refl)

syllables-counted : (count (has_sort Lv) 0xAC00 11172 ≡ 399) × (count (has_sort Lvt) 0xAC00 11172 ≡ 10773)
unfolding count sort_of within
syllables-counted = (refl, refl)

-- no LV or LVT stands among the letters
letters-no-syllable : (letters-of Lv ≡ 0) × (letters-of Lvt ≡ 0)
unfolding count sort_of class_of make_of within
letters-no-syllable = (refl, refl)

-- ---- THE COUNTS, simple letters and clusters: 14 + 5 and 9 + 96 initials, 10 + 11 and 1 + 72
-- peaks, 14 + 13 and 3 + 107 finals, modern and old; a filler of each of two places, 399 LV and
-- 10,773 LVT

pub modern-initials : (how_many (ModernInitial Simple) ≡ 14) × (how_many (ModernInitial Cluster) ≡ 5)
modern-initials = (counted (ModernInitial Simple) refl refl refl letters-counted.0, counted (ModernInitial Cluster) refl refl refl letters-counted.1)

pub old-initials : (how_many (OldInitial Simple) ≡ 9) × (how_many (OldInitial Cluster) ≡ 96)
old-initials = (counted (OldInitial Simple) refl refl refl letters-counted.2, counted (OldInitial Cluster) refl refl refl letters-counted.3)

pub initial-fillers : how_many InitialFiller ≡ 1
initial-fillers = counted InitialFiller refl refl refl letters-counted.4

pub peak-fillers : how_many PeakFiller ≡ 1
peak-fillers = counted PeakFiller refl refl refl letters-counted.5

pub modern-peaks : (how_many (ModernPeak Simple) ≡ 10) × (how_many (ModernPeak Cluster) ≡ 11)
modern-peaks = (counted (ModernPeak Simple) refl refl refl letters-counted.6, counted (ModernPeak Cluster) refl refl refl letters-counted.7)

pub old-peaks : (how_many (OldPeak Simple) ≡ 1) × (how_many (OldPeak Cluster) ≡ 72)
old-peaks = (counted (OldPeak Simple) refl refl refl letters-counted.8, counted (OldPeak Cluster) refl refl refl letters-counted.9)

pub modern-finals : (how_many (ModernFinal Simple) ≡ 14) × (how_many (ModernFinal Cluster) ≡ 13)
modern-finals = (counted (ModernFinal Simple) refl refl refl letters-counted.10, counted (ModernFinal Cluster) refl refl refl letters-counted.11)

pub old-finals : (how_many (OldFinal Simple) ≡ 3) × (how_many (OldFinal Cluster) ≡ 107)
old-finals = (counted (OldFinal Simple) refl refl refl letters-counted.12, counted (OldFinal Cluster) refl refl refl letters-counted.13)

pub lv-syllables : how_many Lv ≡ 399
lv-syllables = omega (arith, four-places (has_sort Lv) (apart Lv Other refl), letters-no-syllable.0, syllables-counted.0)

pub lvt-syllables : how_many Lvt ≡ 10773
lvt-syllables = omega (arith, four-places (has_sort Lvt) (apart Lvt Other refl), letters-no-syllable.1, syllables-counted.1)

-- ---- the letters of document 02, #106

-- a letter or filler of document 01's list, or a syllable; all else is other there
abbrev pub known_before : ℕ → Bool
known_before c = within 0x1100 0x1159 c || (within 0x115F 0x11A2 c || (within 0x11A8 0x11F9 c || within 0xAC00 0xD7A3 c))

-- other there, and of the sort s now
abbrev pub new_as : Sort → ℕ → Bool
new_as s c = not (known_before c) && has_sort s c

-- range by range all of them are new, and old clusters
pub new-letters : (count (new_as (OldInitial Cluster)) 0x115A 5 ≡ 5)
    × (count (new_as (OldPeak Cluster)) 0x11A3 5 ≡ 5)
    × (count (new_as (OldFinal Cluster)) 0x11FA 6 ≡ 6)
    × (count (new_as (OldInitial Cluster)) 0xA960 29 ≡ 29)
    × (count (new_as (OldPeak Cluster)) 0xD7B0 23 ≡ 23)
    × (count (new_as (OldFinal Cluster)) 0xD7CB 49 ≡ 49)
unfolding count sort_of class_of make_of within
new-letters = (refl, refl, refl, refl, refl, refl)

-- and there are no more: of all code points 117 are other no longer
abbrev pub is_new : ℕ → Bool
is_new c = not (known_before c) && not (has_sort Other c)

new-among-letters : among_letters is_new ≡ 117
unfolding count sort_of class_of make_of within
new-among-letters = refl

new-no-syllable : count is_new 0xAC00 11172 ≡ 0
new-no-syllable =
    count_none is_new 11172 0xAC00
    (λ c l h. simp (
      within-above 0x1100 0x1159 c (omega arith),
      within-above 0x115F 0x11A2 c (omega arith),
      within-above 0x11A8 0x11F9 c (omega arith),
      within-yes 0xAC00 0xD7A3 c l (omega arith),
    ))

pub new-counted : count is_new 0 0x110000 ≡ 117
new-counted =
    omega (
      arith,
      four-places is_new (λ c e. and-not-right (not (known_before c)) (not (has_sort Other c)) (rw e refl)),
      new-among-letters,
      new-no-syllable,
    )

-- 11A7 is one of them: an old peak, and still no final
pub a7-old-peak : sort_of 0x11A7 ≡ OldPeak Cluster
a7-old-peak = sym (sort-between 0x11A7 0x11A7 tt (omega arith) (omega arith))
