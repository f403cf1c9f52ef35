-- The rule of the two tables. In order: ONE TEST over all 357 rows, which antt computes (`ruled`);
-- ONE LEMMA, from the test to the rule at each row (`rule-at`), and so THE RULE (`table-rule`).
-- Then the list of clusters, which gathering searches, held to the rows (`agrees`), and what holds
-- of the letters of every number (`by-letters`): how many they are, outside the tables, good ones,
-- and the rule once more. Last the clusters counted, the sorter held to the rows (`make-told`), and
-- rows of documents 01 and 02 as worked examples.
use mathlib.Core.Path.{◌≡◌, refl, sym, ◌∙◌, ap}
use mathlib.Core.Bool.{Bool, true, false, cond, not, ◌&&◌, ◌||◌, true≢false}
use mathlib.Core.List.{List, [], ◌∷◌, map}
use Prim.Native.Nat.{ℕ, ◌≤◌, ◌<◌}
use native.Mathlib.Omega.{arith}
use lib.Dec.{T, eqb, leb}
use lib.ListN.{length, get_or, length-map, get_or-map}
use borrow.Author.Tests.{eqb-true, leb-true}
use Rattle.laws.specs.Lists.{All, none, also}
use Rattle.laws.specs.Ranges.{within}
use Rattle.laws.specs.Strings.{same}
use Rattle.laws.proofs.Bools.{test, T_true, and-T-left, and-T-right}
use Rattle.laws.proofs.Lists.{all_map}
use Rattle.laws.proofs.Ranges.{within-least, within-most}
use Rattle.laws.proofs.Strings.{same_true, every-all}
use Rattle.laws.proofs.Tables.{every, every-at, distinct, distinct-at}
use Rattle.answers.specs.Checks.{bad}
use Rattle.answers.proofs.Checks.{good-low}
use Rattle.letters.specs.Sorts.{modern_initial, modern_final, neither, class_of, make_of, sort_of}
use Rattle.letters.specs.declared.sort.Make.{Make}
use Rattle.letters.specs.declared.sort.Make.TheVariants.{Simple, Cluster as Several}
use Rattle.letters.specs.declared.sort.Sort.{Sort}
use Rattle.letters.specs.declared.sort.Sort.TheVariants.{ModernInitial, OldInitial, InitialFiller, PeakFiller, ModernPeak, OldPeak, ModernFinal, OldFinal, Lv, Lvt, Other}
use Rattle.letters.proofs.Sorts.{class_in, sort-is-class, class_number, is_class}
use Rattle.clusters.specs.Table.{Cluster, two, three, modern_initials, old_initials, modern_peaks, old_peaks, modern_finals, old_finals, added_initials, added_peaks, added_finals, extended_initials, extended_peaks, extended_finals, clusters, cluster_code, letters_in, letters_from, letters_of, has_row, cluster_row, Place, initial, peak, final, nowhere, place_of, Rule, TableRule}
use Rattle.clusters.specs.Rows.{packed, numbers_from, row_codes, row_code}
use Rattle.clusters.specs.Simple.{is_letter}
use Rattle.clusters.proofs.Codes.{Numbered, has-number, codes-length, off-neither}

-- ---- the test

-- the places numbered, and back
abbrev place_number : Place → ℕ
place_number initial = 0
place_number peak = 1
place_number final = 2
place_number nowhere = 3

abbrev numbered : ℕ → Place
numbered n = cond (eqb n 0) initial (cond (eqb n 1) peak (cond (eqb n 2) final nowhere))

numbered-place : (p : Place) → numbered (place_number p) ≡ p
numbered-place initial = refl
numbered-place peak = refl
numbered-place final = refl
numbered-place nowhere = refl

same_place : (p q : Place) → eqb (place_number p) (place_number q) ≡ true → p ≡ q
same_place p q e = sym (numbered-place p) ∙ ap numbered (eqb-true (place_number p) (place_number q) e) ∙ numbered-place q

-- a code is alone in its row
unfoldable lone : ℕ → Bool
lone c = same (letters_of c) (c ∷ [])

-- a letter in the row of c has the place of c, and is alone in its own row
unfoldable right_letter : ℕ → ℕ → Bool
right_letter c l = eqb (place_number (place_of l)) (place_number (place_of c)) && lone l

-- the row of c: c is alone in it, or has a place; and its letters are right
unfoldable right_row : ℕ → Bool
right_row c = (lone c || is_letter c) && every (λ n l. right_letter c l) 0 (letters_of c)

-- a row as one number, as the tables have it
unfoldable packed_row : ℕ → ℕ
packed_row c = packed (cluster_row c)

-- THE TEST of both tables together: each of their 357 rows is right, and no two of them are equal
unfoldable ruled : Bool
ruled = every (λ n c. right_row c) 0 row_codes && distinct (map packed_row row_codes)

holds : T ruled
unfolding ruled right_row right_letter lone numbers_from packed_row letters_of clusters sort_of class_of make_of within
holds = tt

-- ---- from the test to the rule at each row

lone-letters : (c : ℕ) → lone c ≡ true → letters_of c ≡ c ∷ []
unfolding lone
lone-letters c e = same_true (letters_of c) (c ∷ []) e

module _ (c l : ℕ) (t : T (right_letter c l)) where
  right-place : place_of l ≡ place_of c
  unfolding right_letter
  right-place = same_place (place_of l) (place_of c) (T_true _ (and-T-left (eqb (place_number (place_of l)) (place_number (place_of c))) (lone l) t))

  right-alone : letters_of l ≡ l ∷ []
  unfolding right_letter
  right-alone = lone-letters l (T_true _ (and-T-right (eqb (place_number (place_of l)) (place_number (place_of c))) (lone l) t))

module _ (c : ℕ) (t : T (right_row c)) where
  right-letters : All (λ l. T (right_letter c l)) (letters_of c)
  unfolding right_row
  right-letters = every-all (right_letter c) (λ l h. h) (letters_of c) 0 (and-T-right (lone c || is_letter c) _ t)

  alone-or-placed : T (lone c || is_letter c)
  unfolding right_row
  alone-or-placed = and-T-left (lone c || is_letter c) _ t

  cluster-placed : 1 < length (letters_of c) → place_of c ≡ nowhere → ⊥
  cluster-placed h n = test (lone c) (λ e. omega (arith, ap length (lone-letters c e))) (λ e. rw (e, n) at alone-or-placed)

no_row : packed_row 0 ≡ 0
unfolding packed_row letters_of clusters
no_row = refl

-- the row of a code, by its number
module _ (c : ℕ) {k : ℕ} (is : Numbered c k) where
  number_in : k < length row_codes
  number_in = rw codes-length is.small

  packed-in : k < length (map packed_row row_codes)
  packed-in = rw length-map number_in

  packed-at : get_or (map packed_row row_codes) k 0 ≡ packed_row c
  packed-at = (rw no_row at (get_or-map packed_row row_codes k 0)) ∙ ap packed_row is.code

-- THE LEMMA: the test gives the rule at each row
module _ (t : T ruled) where
  row-right : (c : ℕ) {k : ℕ} → Numbered c k → T (right_row c)
  unfolding ruled
  row-right c {k} is =
      rw is.code
      at (every-at (λ n c. right_row c) 0 row_codes (and-T-left (every (λ n c. right_row c) 0 row_codes) (distinct (map packed_row row_codes)) t) k (number_in c is))

  row_apart : (c d : ℕ) {k j : ℕ} → Numbered c k → Numbered d j → packed_row c ≡ packed_row d → c ≡ d
  unfolding ruled
  row_apart c d {k} {j} is other e =
      let apart = and-T-right (every (λ n c. right_row c) 0 row_codes) (distinct (map packed_row row_codes)) t in
      let one = distinct-at (map packed_row row_codes) k j apart (packed-in c is) (packed-in d other) (packed-at c is ∙ e ∙ sym (packed-at d other)) in
      sym is.code ∙ ap row_code one ∙ other.code

  rule-at : TableRule
  unfolding packed_row
  rule-at c has =
      has-number c has
      (λ k is.
      let right = row-right c is in
      record {
        placed = λ several. all_map (λ x t n. cluster-placed c right several (sym (right-place c x t) ∙ n)) (right-letters c right);
        one_place = all_map (right-place c) (right-letters c right);
        alone = all_map (right-alone c) (right-letters c right);
        distinct = λ d too e. has-number d too (λ j other. row_apart c d is other (ap packed e));
      })

-- THE RULE OF BOTH TABLES
pub table-rule : TableRule
table-rule = rule-at holds

-- ---- the list of clusters, which gathering searches, has the letters of the rows

-- the most letters that a code may have: modern initials and modern finals two, all others three
abbrev most_of : ℕ → ℕ
most_of c = cond (is_class modern_initial (class_of c) || is_class modern_final (class_of c)) 2 3

-- a cluster has a row with its letters; they are few enough; all are numbers of 01's table
unfoldable agrees : Cluster → Bool
agrees k =
    (has_row (cluster_code k) && same (letters_of (cluster_code k)) (letters_in k))
    && (leb (length (letters_in k)) (most_of (cluster_code k)) && every (λ n l. within 0x1100 0x11FF l) 0 (letters_in k))

list-agrees : T (every (λ n k. agrees k) 0 clusters)
unfolding agrees has_row letters_of clusters class_of within
list-agrees = tt

all-agree : All (λ k. T (agrees k)) clusters
all-agree = every-all agrees (λ k t. t) clusters 0 list-agrees

module _ (k : Cluster) (t : T (agrees k)) where
  of_code : T (has_row (cluster_code k) && same (letters_of (cluster_code k)) (letters_in k))
  unfolding agrees
  of_code = and-T-left (has_row (cluster_code k) && same (letters_of (cluster_code k)) (letters_in k)) _ t

  of-letters : T (leb (length (letters_in k)) (most_of (cluster_code k)) && every (λ n l. within 0x1100 0x11FF l) 0 (letters_in k))
  unfolding agrees
  of-letters = and-T-right (has_row (cluster_code k) && same (letters_of (cluster_code k)) (letters_in k)) _ t

  inside : has_row (cluster_code k) ≡ true
  inside = T_true _ (and-T-left (has_row (cluster_code k)) _ of_code)

  found : letters_of (cluster_code k) ≡ letters_in k
  found = same_true _ _ (T_true _ (and-T-right (has_row (cluster_code k)) _ of_code))

  few : length (letters_in k) ≤ most_of (cluster_code k)
  few = leb-true _ _ (T_true _ (and-T-left (leb (length (letters_in k)) (most_of (cluster_code k))) _ of-letters))

  letters-inside : All (λ l. within 0x1100 0x11FF l ≡ true) (letters_in k)
  letters-inside =
      every-all (within 0x1100 0x11FF) (λ l h. T_true _ h) (letters_in k) 0 (and-T-right (leb (length (letters_in k)) (most_of (cluster_code k))) _ of-letters)

-- so the code of every cluster of the list has its letters
pub all_found : All (λ k. letters_of (cluster_code k) ≡ letters_in k) clusters
all_found = all_map found all-agree

-- ---- what holds of a code that is alone, and of every cluster, holds of the letters of every
-- number

module _ (P : ℕ → List ℕ → Type 0) (itself : (c : ℕ) → P c (c ∷ [])) where
  by-list : (cs : List Cluster) → All (λ k. P (cluster_code k) (letters_in k)) cs → (c : ℕ) → P c (letters_from cs c)
  by-list [] ps c = itself c
  by-list (k ∷ cs) (also p ps) c = test (eqb (cluster_code k) c) (λ e. simp e (rw (eqb-true (cluster_code k) c e) at p)) (λ e. simp e (by-list cs ps c))

  by-letters : ((k : Cluster) → T (agrees k) → P (cluster_code k) (letters_in k)) → (c : ℕ) → P c (letters_of c)
  unfolding letters_of
  by-letters cluster c = by-list clusters (all_map cluster all-agree) c

-- ---- how many letters a code has

pub letters-least : (c : ℕ) → 1 ≤ length (letters_of c)
letters-least = by-letters (λ c x. 1 ≤ length x) (λ c. omega arith) (λ k t. one k)
  where
    one : (k : Cluster) → 1 ≤ length (letters_in k)
    one (two k a b) = omega arith
    one (three k a b c) = omega arith

one-or-more : (b : Bool) → 1 ≤ cond b 2 3
one-or-more true = omega arith
one-or-more false = omega arith

three-or-fewer : (b : Bool) → cond b 2 3 ≤ 3
three-or-fewer true = omega arith
three-or-fewer false = omega arith

letters-few : (c : ℕ) → length (letters_of c) ≤ most_of c
letters-few = by-letters (λ c x. length x ≤ most_of c) (λ c. one-or-more (is_class modern_initial (class_of c) || is_class modern_final (class_of c))) few

pub letters-most : (c : ℕ) → length (letters_of c) ≤ 3
letters-most c = omega (arith, letters-few c, three-or-fewer (is_class modern_initial (class_of c) || is_class modern_final (class_of c)))

-- of a modern initial, and of a modern final
pub initial-most : (c : ℕ) → class_of c ≡ modern_initial → length (letters_of c) ≤ 2
initial-most c e = simp e at (letters-few c)

pub final-most : (c : ℕ) → class_of c ≡ modern_final → length (letters_of c) ≤ 2
final-most c e = simp e at (letters-few c)

-- ---- outside the tables, and good letters

pub letters-outside : (c : ℕ) → has_row c ≡ false → letters_of c ≡ c ∷ []
letters-outside =
    by-letters (λ c x. has_row c ≡ false → x ≡ c ∷ []) (λ c h. refl) (λ k t h. absurd (true≢false (sym (inside k t) ∙ h)))

-- so a code with two letters or more has a row
pub letters-row : (c : ℕ) → 1 < length (letters_of c) → has_row c ≡ true
letters-row c h = test (has_row c) (λ e. e) (λ e. absurd (omega (arith, ap length (letters-outside c e))))

-- what holds of every number of 01's table, and of a code, holds of the code's letters
pub letters-all : (P : ℕ → Type 0) → ((l : ℕ) → 0x1100 ≤ l → l ≤ 0x11FF → P l) → (c : ℕ) → P c → All P (letters_of c)
letters-all P low = by-letters (λ c x. P c → All P x) (λ c p. also p none) (λ k t p. all_map by (letters-inside k t))
  where
    by : (l : ℕ) → within 0x1100 0x11FF l ≡ true → P l
    by l e = low l (within-least 0x1100 0x11FF l e) (within-most 0x1100 0x11FF l e)

pub letters-good : (c : ℕ) → bad c ≡ false → All (λ l. bad l ≡ false) (letters_of c)
letters-good = letters-all (λ l. bad l ≡ false) (λ l h k. good-low l (omega arith))

-- none is 0, so that 0 can stand for no letter
pub letters-nonzero : (c : ℕ) → (c ≡ 0 → ⊥) → All (λ l. l ≡ 0 → ⊥) (letters_of c)
letters-nonzero = letters-all (λ l. l ≡ 0 → ⊥) (λ l h k e. omega arith)

-- a code with one letter is that letter
pub one-letter : (c : ℕ) {a : ℕ} → letters_of c ≡ a ∷ [] → a ≡ c
one-letter c {a} = by-letters (λ c x. x ≡ a ∷ [] → a ≡ c) (λ c e. cc) (λ k t e. absurd (several k e)) c
  where
    several : (k : Cluster) → letters_in k ≡ a ∷ [] → ⊥
    several (two k x y) e = omega (arith, ap length e)
    several (three k x y z) e = omega (arith, ap length e)

-- ---- the rule of every number: one outside the tables is alone

module _ {G : Type 0} (c : ℕ) where
  -- by cases: the rule, or alone
  ruled-or-alone : (Rule c → G) → (letters_of c ≡ c ∷ [] → G) → G
  ruled-or-alone rule alone = test (has_row c) (λ e. rule (table-rule c e)) (λ e. alone (letters-outside c e))

pub letters-alone : (c : ℕ) → All (λ l. letters_of l ≡ l ∷ []) (letters_of c)
letters-alone c = ruled-or-alone c (λ r. r.alone) (λ e. rw e (also e none))

pub letters-placed : (c : ℕ) → 1 < length (letters_of c) → All (λ l. place_of l ≡ nowhere → ⊥) (letters_of c)
letters-placed c h = ruled-or-alone c (λ r. r.placed h) (λ e. absurd (omega (arith, ap length e)))

pub letters-one-place : (c : ℕ) → All (λ l. place_of l ≡ place_of c) (letters_of c)
letters-one-place c = ruled-or-alone c (λ r. r.one_place) (λ e. rw e (also refl none))

pub letters-distinct : (c d : ℕ) → letters_of c ≡ letters_of d → c ≡ d
letters-distinct c d e =
    test (has_row c)
    (λ p.
    test (has_row d) (λ q. (table-rule c p).distinct d q (rw e))
    (λ q. sym (one-letter c (e ∙ letters-outside d q))))
    (λ p. one-letter d (sym e ∙ letters-outside c p))

-- ---- the clusters counted, by their lists

pub clusters-counted : (length modern_initials ≡ 5) × (length modern_peaks ≡ 11) × (length modern_finals ≡ 13) × (length old_initials ≡ 62)
    × (length old_peaks ≡ 44) × (length old_finals ≡ 52) × (length added_initials ≡ 5) × (length added_peaks ≡ 5) × (length added_finals ≡ 6)
    × (length extended_initials ≡ 29) × (length extended_peaks ≡ 23) × (length extended_finals ≡ 49) × (length clusters ≡ 304)
unfolding clusters
clusters-counted = (refl, refl, refl, refl, refl, refl, refl, refl, refl, refl, refl, refl, refl)

-- ---- THE SORTER SAYS CLUSTER JUST WHERE THE ROW LISTS SEVERAL LETTERS, of every number: antt
-- computes it over the rows, and what has no row is no letter

abbrev compound : Make → Bool
compound Simple = false
compound Several = true

abbrev pub says_cluster : Sort → Bool
says_cluster (ModernInitial m) = compound m
says_cluster (OldInitial m) = compound m
says_cluster InitialFiller = false
says_cluster PeakFiller = false
says_cluster (ModernPeak m) = compound m
says_cluster (OldPeak m) = compound m
says_cluster (ModernFinal m) = compound m
says_cluster (OldFinal m) = compound m
says_cluster Lv = false
says_cluster Lvt = false
says_cluster Other = false

abbrev pub lists_several : ℕ → Bool
lists_several c = leb 2 (length (letters_of c))

abbrev alike : Bool → Bool → Bool
alike a b = cond a b (not b)

alike_same : (a b : Bool) → T (alike a b) → a ≡ b
alike_same true true t = refl
alike_same true false t = absurd t
alike_same false true t = absurd t
alike_same false false t = refl

told : T (every (λ n c. alike (says_cluster (sort_of c)) (lists_several c)) 0 row_codes)
unfolding numbers_from sort_of class_of make_of letters_of clusters within
told = tt

says_none : (s : Sort) → class_in s ≡ neither → says_cluster s ≡ false
says_none (ModernInitial m) e = absurd (omega (arith, ap class_number e))
says_none (OldInitial m) e = absurd (omega (arith, ap class_number e))
says_none InitialFiller e = refl
says_none PeakFiller e = refl
says_none (ModernPeak m) e = absurd (omega (arith, ap class_number e))
says_none (OldPeak m) e = absurd (omega (arith, ap class_number e))
says_none (ModernFinal m) e = absurd (omega (arith, ap class_number e))
says_none (OldFinal m) e = absurd (omega (arith, ap class_number e))
says_none Lv e = refl
says_none Lvt e = refl
says_none Other e = refl

pub make-told : (c : ℕ) → says_cluster (sort_of c) ≡ lists_several c
make-told c = test (has_row c) (λ e. has-number c e (λ k is. row is)) outside
  where
    row : {k : ℕ} → Numbered c k → says_cluster (sort_of c) ≡ lists_several c
    row {k} is =
        alike_same _ _ (rw is.code at (every-at (λ n c. alike (says_cluster (sort_of c)) (lists_several c)) 0 row_codes told k (number_in c is)))

    outside : has_row c ≡ false → says_cluster (sort_of c) ≡ lists_several c
    outside e = says_none (sort_of c) (sort-is-class c ∙ sym (off-neither c e)) ∙ rw (letters-outside c e)

-- ---- rows of document 01: its corrections, and clusters of three

pub row-1140 : cluster_row 0x1140 ≡ 0x1140 ∷ 0 ∷ 0 ∷ []
unfolding letters_of clusters
row-1140 = refl

pub row-1153 : cluster_row 0x1153 ≡ 0x110E ∷ 0x1112 ∷ 0 ∷ []
unfolding letters_of clusters
row-1153 = refl

pub row-116A : cluster_row 0x116A ≡ 0x1169 ∷ 0x1161 ∷ 0 ∷ []
unfolding letters_of clusters
row-116A = refl

pub row-116B : cluster_row 0x116B ≡ 0x1169 ∷ 0x1161 ∷ 0x1175 ∷ []
unfolding letters_of clusters
row-116B = refl

pub row-11B6 : cluster_row 0x11B6 ≡ 0x11AF ∷ 0x11C2 ∷ 0 ∷ []
unfolding letters_of clusters
row-11B6 = refl

pub row-1146 : cluster_row 0x1146 ≡ 0x110B ∷ 0x1140 ∷ 0 ∷ []
unfolding letters_of clusters
row-1146 = refl

pub row-1122 : cluster_row 0x1122 ≡ 0x1107 ∷ 0x1109 ∷ 0x1100 ∷ []
unfolding letters_of clusters
row-1122 = refl

-- ---- rows of document 02, #102: what the appendix lacks and what it has twice, the old peak that
-- is simple, IEUNG by the name and not by its alias, a final of three

pub row-118E : cluster_row 0x118E ≡ 0x1172 ∷ 0x1161 ∷ 0 ∷ []
unfolding letters_of clusters
row-118E = refl

pub row-118C : cluster_row 0x118C ≡ 0x116E ∷ 0x1167 ∷ 0x1175 ∷ []
unfolding letters_of clusters
row-118C = refl

pub row-119E : cluster_row 0x119E ≡ 0x119E ∷ 0 ∷ 0 ∷ []
unfolding letters_of clusters
row-119E = refl

pub row-11ED : cluster_row 0x11ED ≡ 0x11BC ∷ 0x11A8 ∷ 0x11A8 ∷ []
unfolding letters_of clusters
row-11ED = refl

pub row-11CF : cluster_row 0x11CF ≡ 0x11AF ∷ 0x11AE ∷ 0x11C2 ∷ []
unfolding letters_of clusters
row-11CF = refl

-- the old simple letters keep their own row
pub old-simple : All (λ c. cluster_row c ≡ c ∷ 0 ∷ 0 ∷ [])
    (0x113C ∷ 0x113E ∷ 0x1140 ∷ 0x114C ∷ 0x114E ∷ 0x1150 ∷ 0x1154 ∷ 0x1155 ∷ 0x1159 ∷ 0x119E ∷ 0x11EB ∷ 0x11F0 ∷ 0x11F9 ∷ [])
unfolding letters_of clusters
old-simple =
    also refl (also refl (also refl (also refl (also refl (also refl (also refl (also refl (also refl (also refl (also refl (also refl (also refl none))))))))))))
