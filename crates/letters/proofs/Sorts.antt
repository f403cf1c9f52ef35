-- Laws of the sorter. In order: the class, the make and the sort from the range that a number lies
-- in (`class-between`, `make-between`, `sort-between`), and where single numbers are gone from it
-- (`sort-apart`); the class that a sort has (`sort-is-class`); the range from the class, and from
-- the sort LV.
use mathlib.Core.Path.{◌≡◌, refl, sym, ◌∙◌, ap}
use mathlib.Core.Bool.{Bool, true, false, cond, not, ◌&&◌, ◌||◌}
use mathlib.Core.Logic.{◌⊎◌, ⊎_elim}
use mathlib.Core.List.{List, [], ◌∷◌}
use Prim.Native.Nat.{ℕ, ◌+◌, ◌-◌, ◌%◌, ◌≤◌, ◌<◌}
use native.Mathlib.Omega.{arith}
use lib.Dec.{T, ltb, eqb, eqb_refl, ltb→lt}
use lib.ListN.{get_or}
use borrow.Author.Tests.{eq-eqb, ne_eqb, eqb-true}
use Rattle.laws.specs.Lists.{All, none, also, count}
use Rattle.laws.specs.Ranges.{within}
use Rattle.laws.proofs.Bools.{and-T-left, and-T-right}
use Rattle.laws.proofs.Lists.{count-zero}
use Rattle.laws.proofs.Ranges.{within-yes, within-below, within-above, within-least, within-most, between, uncut, look-between, look-above, Inside, look-inside}
use Rattle.laws.proofs.Tables.{absent, absent-all}
use Rattle.letters.specs.declared.sort.Make.{Make}
use Rattle.letters.specs.declared.sort.Make.TheVariants.{Simple, Cluster}
use Rattle.letters.specs.declared.sort.Sort.{Sort}
use Rattle.letters.specs.declared.sort.Sort.TheVariants.{ModernInitial, OldInitial, InitialFiller, PeakFiller, ModernPeak, OldPeak, ModernFinal, OldFinal, Lv, Lvt, Other}
use Rattle.letters.specs.Sorts.{Class, modern_initial, old_initial, initial_filler, peak_filler, modern_peak, old_peak, modern_final, old_final, neither, class_ranges, class_of, simple_ranges, make_of, sort_in, sort_of, sort_number, has_sort}

-- ---- forwards: from the range to the class, the make and the sort

-- lo to hi lies before the syllables, or after them
abbrev pub beside : ℕ → ℕ → Bool
beside lo hi = ltb hi 0xAC00 || ltb 0xD7A3 lo

pub no-syllable : (lo hi c : ℕ) → T (beside lo hi) → lo ≤ c → c ≤ hi → within 0xAC00 0xD7A3 c ≡ false
no-syllable lo hi c t l h = by (ltb hi 0xAC00) refl t
  where
    by : (b : Bool) → ltb hi 0xAC00 ≡ b → T (b || ltb 0xD7A3 lo) → within 0xAC00 0xD7A3 c ≡ false
    by true e t = let k : hi < 0xAC00 = ltb→lt hi 0xAC00 (rw e tt) in within-below 0xAC00 0xD7A3 c (omega arith)
    by false e t = let k : 0xD7A3 < lo = ltb→lt 0xD7A3 lo t in within-above 0xAC00 0xD7A3 c (omega arith)

-- THE CLASS, AND THE MAKE, BETWEEN TWO BOUNDS: the test computes where lo and hi are numerals
pub class-between : (lo hi : ℕ) {c : ℕ} → T (uncut lo hi class_ranges) → lo ≤ c → c ≤ hi → between neither lo hi class_ranges ≡ class_of c
unfolding class_of
class-between lo hi {c} t l h = sym (look-between neither lo hi c l h class_ranges t)

pub class-above : (c : ℕ) → 0xD7FB < c → class_of c ≡ neither
unfolding class_of
class-above c h = look-above neither 0xD7FB c h class_ranges tt

pub make-between : (lo hi : ℕ) {c : ℕ} → T (uncut lo hi simple_ranges) → lo ≤ c → c ≤ hi → between Cluster lo hi simple_ranges ≡ make_of c
unfolding make_of
make-between lo hi {c} t l h = sym (look-between Cluster lo hi c l h simple_ranges t)

-- beside the syllables the class and the make give the sort
pub sort-class : (c : ℕ) → within 0xAC00 0xD7A3 c ≡ false → sort_in (class_of c) (make_of c) ≡ sort_of c
unfolding sort_of
sort-class c e = simp e

-- THE SORT BETWEEN TWO BOUNDS: the three tests compute where lo and hi are numerals
pub sort-between : (lo hi : ℕ) {c : ℕ} → T (beside lo hi && (uncut lo hi class_ranges && uncut lo hi simple_ranges)) → lo ≤ c → c ≤ hi
    → sort_in (between neither lo hi class_ranges) (between Cluster lo hi simple_ranges) ≡ sort_of c
sort-between lo hi {c} t l h =
    let b = and-T-left (beside lo hi) (uncut lo hi class_ranges && uncut lo hi simple_ranges) t in
    let u = and-T-right (beside lo hi) (uncut lo hi class_ranges && uncut lo hi simple_ranges) t in
    let k = class-between lo hi {c = c} (and-T-left (uncut lo hi class_ranges) (uncut lo hi simple_ranges) u) l h in
    let m = make-between lo hi {c = c} (and-T-right (uncut lo hi class_ranges) (uncut lo hi simple_ranges) u) l h in
    ap (λ k. sort_in k (between Cluster lo hi simple_ranges)) k ∙ ap (sort_in (class_of c)) m ∙ sort-class c (no-syllable lo hi c b l h)

pub sort-lv : {c : ℕ} → 0xAC00 ≤ c → c ≤ 0xD7A3 → (c - 0xAC00) % 28 ≡ 0 → Lv ≡ sort_of c
unfolding sort_of
sort-lv {c} l h e = simp (within-yes 0xAC00 0xD7A3 c l h, eq-eqb _ _ e)

pub sort-lvt : {c : ℕ} → 0xAC00 ≤ c → c ≤ 0xD7A3 → ((c - 0xAC00) % 28 ≡ 0 → ⊥) → Lvt ≡ sort_of c
unfolding sort_of
sort-lvt {c} l h e = simp (within-yes 0xAC00 0xD7A3 c l h, ne_eqb _ _ e)

-- ---- between two bounds from which single numbers are gone

-- the sorts in the order of their numbers
abbrev sorts : List Sort
sorts =
    ModernInitial Simple ∷ ModernInitial Cluster ∷ OldInitial Simple ∷ OldInitial Cluster ∷ InitialFiller ∷ PeakFiller
    ∷ ModernPeak Simple ∷ ModernPeak Cluster ∷ OldPeak Simple ∷ OldPeak Cluster
    ∷ ModernFinal Simple ∷ ModernFinal Cluster ∷ OldFinal Simple ∷ OldFinal Cluster ∷ Lv ∷ Lvt ∷ Other ∷ []

sort-numbered : (s : Sort) → get_or sorts (sort_number s) Other ≡ s
sort-numbered (ModernInitial Simple) = refl
sort-numbered (ModernInitial Cluster) = refl
sort-numbered (OldInitial Simple) = refl
sort-numbered (OldInitial Cluster) = refl
sort-numbered InitialFiller = refl
sort-numbered PeakFiller = refl
sort-numbered (ModernPeak Simple) = refl
sort-numbered (ModernPeak Cluster) = refl
sort-numbered (OldPeak Simple) = refl
sort-numbered (OldPeak Cluster) = refl
sort-numbered (ModernFinal Simple) = refl
sort-numbered (ModernFinal Cluster) = refl
sort-numbered (OldFinal Simple) = refl
sort-numbered (OldFinal Cluster) = refl
sort-numbered Lv = refl
sort-numbered Lvt = refl
sort-numbered Other = refl

pub has-sort : (s : Sort) (c : ℕ) → has_sort s c ≡ true → sort_of c ≡ s
has-sort s c e =
    sym (sort-numbered (sort_of c)) ∙ ap (λ n. get_or sorts n Other) (eqb-true (sort_number (sort_of c)) (sort_number s) e) ∙ sort-numbered s

-- what a match hands over after its single numbers: that the number is none of them
abbrev pub Gone : ℕ → Type 0 → List ℕ → Type 0
Gone c P [] = P
Gone c P (k ∷ ks) = Gone c (P × (c ≡ k → ⊥)) ks

pub gone-all : (c : ℕ) (P : Type 0) (ks : List ℕ) → Gone c P ks → P × All (λ k. c ≡ k → ⊥) ks
gone-all c P [] r = (r, none)
gone-all c P (k ∷ ks) r = let q = gone-all c (P × (c ≡ k → ⊥)) ks r in (q.0.0, also q.0.1 q.1)

-- c is not gone, and has not the sort s
abbrev pub strays : Sort → List ℕ → ℕ → Bool
strays s gone c = absent c gone && not (has_sort s c)

-- THE SORT OF WHAT IS LEFT of the n numbers from lo on: antt counts that none strays
pub sort-apart : (s : Sort) (gone : List ℕ) (lo n : ℕ) {c : ℕ} → count (strays s gone) lo n ≡ 0 → All (λ k. c ≡ k → ⊥) gone → lo ≤ c → c < lo + n
    → s ≡ sort_of c
sort-apart s gone lo n {c} e p l h = sym (has-sort s c (by (has_sort s c) (rw (absent-all c p) at (count-zero (strays s gone) n lo {c = c} e l h))))
  where
    by : (b : Bool) → not b ≡ false → b ≡ true
    by true q = refl
    by false q = sym q

-- ---- the class of a sort

abbrev pub class_in : Sort → Class
class_in (ModernInitial m) = modern_initial
class_in (OldInitial m) = old_initial
class_in InitialFiller = initial_filler
class_in PeakFiller = peak_filler
class_in (ModernPeak m) = modern_peak
class_in (OldPeak m) = old_peak
class_in (ModernFinal m) = modern_final
class_in (OldFinal m) = old_final
class_in Lv = neither
class_in Lvt = neither
class_in Other = neither

class-in : (k : Class) (m : Make) → class_in (sort_in k m) ≡ k
class-in modern_initial m = refl
class-in old_initial m = refl
class-in initial_filler m = refl
class-in peak_filler m = refl
class-in modern_peak m = refl
class-in old_peak m = refl
class-in modern_final m = refl
class-in old_final m = refl
class-in neither m = refl

-- no letter lies among the syllables
syllable-class : (c : ℕ) → within 0xAC00 0xD7A3 c ≡ true → neither ≡ class_of c
syllable-class c w = class-between 0xAC00 0xD7A3 tt (within-least 0xAC00 0xD7A3 c w) (within-most 0xAC00 0xD7A3 c w)

-- THE CLASS OF A SORT, of every number
pub sort-is-class : (c : ℕ) → class_in (sort_of c) ≡ class_of c
unfolding sort_of
sort-is-class c = by (within 0xAC00 0xD7A3 c) (eqb ((c - 0xAC00) % 28) 0) refl
  where
    by : (a b : Bool) → within 0xAC00 0xD7A3 c ≡ a → class_in (cond a (cond b Lv Lvt) (sort_in (class_of c) (make_of c))) ≡ class_of c
    by true true w = syllable-class c w
    by true false w = syllable-class c w
    by false b w = class-in (class_of c) (make_of c)

-- ---- backwards: from the class to the range

-- the classes numbered, so that a test can tell them apart
abbrev pub class_number : Class → ℕ
class_number modern_initial = 0
class_number old_initial = 1
class_number initial_filler = 2
class_number peak_filler = 3
class_number modern_peak = 4
class_number old_peak = 5
class_number modern_final = 6
class_number old_final = 7
class_number neither = 8

abbrev pub is_class : Class → Class → Bool
is_class k j = eqb (class_number j) (class_number k)

-- THE RANGES OF A CLASS
pub class-inside : (k : Class) (c : ℕ) → class_of c ≡ k → Inside neither (is_class k) c class_ranges
unfolding class_of
class-inside k c e = look-inside neither (is_class k) c class_ranges (rw e (eqb_refl (class_number k)))

only : {A : Type 0} → A ⊎ ⊥ → A
only w = ⊎_elim (λ x. x) (λ t. absurd t) w

pub modern-initial-range : (c : ℕ) → class_of c ≡ modern_initial → (0x1100 ≤ c) × (c ≤ 0x1112)
modern-initial-range c e = only (class-inside modern_initial c e)

pub modern-peak-range : (c : ℕ) → class_of c ≡ modern_peak → (0x1161 ≤ c) × (c ≤ 0x1175)
modern-peak-range c e = only (class-inside modern_peak c e)

pub modern-final-range : (c : ℕ) → class_of c ≡ modern_final → (0x11A8 ≤ c) × (c ≤ 0x11C2)
modern-final-range c e = only (class-inside modern_final c e)

pub lv-range : (c : ℕ) → sort_of c ≡ Lv → (0xAC00 ≤ c) × (c ≤ 0xD7A3) × ((c - 0xAC00) % 28 ≡ 0)
unfolding sort_of
lv-range c e = by (within 0xAC00 0xD7A3 c) (eqb ((c - 0xAC00) % 28) 0) refl refl e
  where
    no-letter : sort_in (class_of c) (make_of c) ≡ Lv → ⊥
    no-letter q =
        let k : class_of c ≡ neither = sym (class-in (class_of c) (make_of c)) ∙ ap class_in q in
        omega (arith, ap sort_number (ap (λ j. sort_in j (make_of c)) (sym k) ∙ q))

    by : (a b : Bool) → within 0xAC00 0xD7A3 c ≡ a → eqb ((c - 0xAC00) % 28) 0 ≡ b → cond a (cond b Lv Lvt) (sort_in (class_of c) (make_of c)) ≡ Lv
        → (0xAC00 ≤ c) × (c ≤ 0xD7A3) × ((c - 0xAC00) % 28 ≡ 0)
    by true true w q e = (within-least 0xAC00 0xD7A3 c w, within-most 0xAC00 0xD7A3 c w, eqb-true _ _ q)
    by true false w q e = absurd (omega (arith, ap sort_number e))
    by false b w q e = absurd (no-letter e)
