-- Laws of the look-up of clusters. In order: one test over all clusters, which antt computes, for
-- the spans in which a cluster is looked for (`spans-of`); the cluster of two letters, and of
-- three, is the code that has these letters, and there is no other (`two-listed`, `listed-two`,
-- `three-listed`, `listed-three`), and none has the code 0; what is nowhere, and what is 0, is in
-- no cluster, and plain text begins none; which span covers the clusters that begin with some
-- letters (`covers-when`, `covers_more`, `covers-none`); the search, in a range of codes and in
-- both parts of a span (`found-either`).
use mathlib.Core.Path.{◌≡◌, refl, sym, ◌∙◌, ap}
use mathlib.Core.Bool.{Bool, true, ◌&&◌, ◌||◌, true≢false}
use mathlib.Core.Logic.{inl, inr, ⊎_elim}
use mathlib.Core.Option.{Option, none, some, none-ne-some, some-injective}
use mathlib.Core.List.{List, [], ◌∷◌, ◌++◌, append_assoc}
use Prim.Native.Nat.{ℕ, ◌≤◌, ◌<◌}
use native.Mathlib.Omega.{arith}
use lib.Dec.{T, eqb, eqb_refl, leb, ltb}
use lib.ListN.{length, take}
use borrow.Author.Tests.{eqb-true, leb-true, ltb-true}
use Rattle.std.specs.Prelude.{Option as Answer, Some, None, MatchOption}
use Rattle.laws.specs.Lists.{All, also}
use Rattle.laws.proofs.Bools.{test, T_true, true-T, and_left, and_right}
use Rattle.laws.proofs.Lists.{all_head, all_tail, all_map}
use Rattle.laws.proofs.Strings.{every-all}
use Rattle.laws.proofs.Tables.{every}
use Rattle.clusters.specs.Table.{Cluster, two, three, clusters, cluster_code, letters_in, letters_from, letters_of, has_row, nowhere, place_of}
use Rattle.clusters.specs.Rows.{as_row, row_by, letters_by}
use Rattle.clusters.specs.Gathering.{two_in, two_of, three_in, three_of}
use Rattle.laws.specs.Options.{as_answer}
use Rattle.clusters.specs.Inner.{In, Letter, Covers, hit, miss, SearchedFrom, SearchedIn}
use Rattle.clusters.specs.declared.table.Row.{Row}
use Rattle.clusters.specs.declared.gather.Span.{Span}
use Rattle.clusters.proofs.Codes.{row-least}
use Rattle.clusters.proofs.Rule.{all_found, letters-row, letters-all, letters-placed, letters-distinct, letters-nonzero}
use Rattle.clusters.proofs.Rows.{by_two, by_three, letters-by}

-- ---- one test over all clusters

-- the spans of the three places
abbrev pub initial_span : Span
initial_span = record { low = 0x1100; high = 0x115F; outer = 0xA960; end = 0xA97D }

abbrev pub peak_span : Span
peak_span = record { low = 0x1161; high = 0x11A8; outer = 0xD7B0; end = 0xD7C7 }

abbrev pub final_span : Span
final_span = record { low = 0x11A8; high = 0x1200; outer = 0xD7CB; end = 0xD7FC }

-- c is from lo on, before hi
abbrev from : ℕ → ℕ → ℕ → Bool
from lo hi c = leb lo c && ltb c hi

-- its code is in the span, and its letters in the part of it that is in 01's table
unfoldable all_in : Span → Cluster → Bool
all_in span k =
    (from span.low span.high (cluster_code k) || from span.outer span.end (cluster_code k))
    && every (λ n l. from span.low span.high l) 0 (letters_in k)

-- and so they are in one of the three spans
unfoldable spanned : Cluster → Bool
spanned k = all_in initial_span k || (all_in peak_span k || all_in final_span k)

all-spanned : T (every (λ n k. spanned k) 0 clusters)
unfolding spanned all_in clusters
all-spanned = tt

-- ---- what it says

-- a code of the span, and letters in the part of it that is in 01's table
record Inside (span : Span) (k : ℕ) (letters : List ℕ) : Type 0 where
  code : In span k
  all : All (Letter span) letters

data Spanned (k : ℕ) (letters : List ℕ) : Type 0 where
  initials : Inside initial_span k letters → Spanned k letters
  peaks : Inside peak_span k letters → Spanned k letters
  finals : Inside final_span k letters → Spanned k letters

from-both : (lo hi c : ℕ) → from lo hi c ≡ true → (lo ≤ c) × (c < hi)
from-both lo hi c e = (leb-true lo c (and_left (leb lo c) (ltb c hi) e), ltb-true c hi (and_right (leb lo c) (ltb c hi) e))

from_either : (span : Span) (k : ℕ) → from span.low span.high k || from span.outer span.end k ≡ true → In span k
from_either span k e =
    test (from span.low span.high k) (λ q. inl (from-both span.low span.high k q))
    (λ n. inr (from-both span.outer span.end k (simp n at e)))

all-inside : (span : Span) (k : Cluster) → all_in span k ≡ true → Inside span (cluster_code k) (letters_in k)
unfolding all_in
all-inside span k e =
    let code = from span.low span.high (cluster_code k) || from span.outer span.end (cluster_code k) in
    record {
      code = from_either span (cluster_code k) (and_left code _ e);
      all =
          every-all (from span.low span.high) (λ l t. from-both span.low span.high l (T_true _ t)) (letters_in k) 0
          (true-T _ (and_right code _ e));
    }

spanned-by : (k : Cluster) → T (spanned k) → Spanned (cluster_code k) (letters_in k)
unfolding spanned
spanned-by k t =
    test (all_in initial_span k) (λ e. initials (all-inside initial_span k e))
    (λ n.
    test (all_in peak_span k) (λ e. peaks (all-inside peak_span k e))
    (λ m. finals (all-inside final_span k (T_true _ (rw (n, m) at t)))))

spanned-at : All (λ k. T (spanned k)) clusters
spanned-at = every-all spanned (λ k t. t) clusters 0 all-spanned

-- ---- a code with two letters or more is a cluster's: what holds of every cluster of the list
-- holds of it

module _ (P : ℕ → List ℕ → Type 0) {c a b : ℕ} {x : List ℕ} where
  listed_in : (cs : List Cluster) → All (λ k. P (cluster_code k) (letters_in k)) cs → letters_from cs c ≡ a ∷ b ∷ x → P c (a ∷ b ∷ x)
  listed_in [] p e = absurd (omega (arith, ap length e))
  listed_in (k ∷ cs) (also p ps) e =
      test (eqb (cluster_code k) c) (λ q. rw (← (eqb-true (cluster_code k) c q), ← (simp q at e)) p) (λ q. listed_in cs ps (simp q at e))

module _ (c : ℕ) {a b : ℕ} {x : List ℕ} (e : letters_of c ≡ a ∷ b ∷ x) where
  spans-of : Spanned c (a ∷ b ∷ x)
  unfolding letters_of
  spans-of = listed_in Spanned clusters (all_map spanned-by spanned-at) e

  -- it has a row, and is not 0
  pub listed-row : has_row c ≡ true
  listed-row = letters-row c (omega (arith, ap length e))

  pub listed-least : 0x1100 ≤ c
  listed-least = row-least c listed-row

-- ---- the cluster of two letters, and of three

pub eqb_same : (n : ℕ) → eqb n n ≡ true
eqb_same n = T_true (eqb n n) (eqb_refl n)

-- none, where some would be absurd
none-unless : (o : Option ℕ) → ((k : ℕ) → o ≡ some k → ⊥) → o ≡ none
none-unless none h = refl
none-unless (some k) h = absurd (h k refl)

module _ (a b : ℕ) where
  two_in_lem : (cs : List Cluster) → All (λ k. letters_of (cluster_code k) ≡ letters_in k) cs → (c : ℕ) → two_in cs a b ≡ some c → letters_of c ≡ a ∷ b ∷ []
  two_in_lem [] p c e = absurd (none-ne-some _ e)
  two_in_lem (two k x y ∷ cs) (also p ps) c e =
      test (eqb x a && eqb y b)
      (λ q.
      rw (← (some-injective _ _ (simp q at e)), ← (eqb-true x a (and_left (eqb x a) (eqb y b) q)), ← (eqb-true y b (and_right (eqb x a) (eqb y b) q)))
      p)
      (λ q. two_in_lem cs ps c (simp q at e))
  two_in_lem (three k x y z ∷ cs) (also p ps) c e = two_in_lem cs ps c e

  two-missed : (cs : List Cluster) (c : ℕ) → letters_from cs c ≡ a ∷ b ∷ [] → two_in cs a b ≡ none → ⊥
  two-missed [] c e n = omega (arith, ap length e)
  two-missed (two k x y ∷ cs) c e n =
      test (eqb x a && eqb y b) (λ q. none-ne-some _ (sym (simp q at n)))
      (λ q.
      test (eqb k c) (λ r. true≢false (sym (here (simp r at e)) ∙ q)) (λ r. two-missed cs c (simp r at e) (simp q at n)))
    where
      here : x ∷ y ∷ [] ≡ a ∷ b ∷ [] → eqb x a && eqb y b ≡ true
      here d =
          let p : x ≡ a = cc in
          let q : y ≡ b = cc in
          simp (p, q, eqb_same a, eqb_same b)
  two-missed (three k x y z ∷ cs) c e n =
      test (eqb k c) (λ r. omega (arith, ap length (simp r at e))) (λ r. two-missed cs c (simp r at e) n)

  pub two-listed : (c : ℕ) → two_of a b ≡ some c → letters_of c ≡ a ∷ b ∷ []
  unfolding two_of
  two-listed c e = two_in_lem clusters all_found c e

  pub listed-two : (c : ℕ) → letters_of c ≡ a ∷ b ∷ [] → two_of a b ≡ some c
  unfolding two_of letters_of
  listed-two c e = by (two_of a b) refl
    where
      by : (o : Option ℕ) → two_of a b ≡ o → two_of a b ≡ some c
      by none n = absurd (two-missed clusters c e n)
      by (some k) n = n ∙ ap some (letters-distinct k c (two-listed k n ∙ sym e))

module _ (a b d : ℕ) where
  three-in : (cs : List Cluster) → All (λ k. letters_of (cluster_code k) ≡ letters_in k) cs → (c : ℕ) → three_in cs a b d ≡ some c → letters_of c ≡ a ∷ b ∷ d ∷ []
  three-in [] p c e = absurd (none-ne-some _ e)
  three-in (two k x y ∷ cs) (also p ps) c e = three-in cs ps c e
  three-in (three k x y z ∷ cs) (also p ps) c e =
      test (eqb x a && (eqb y b && eqb z d))
      (λ q.
      let r = and_right (eqb x a) (eqb y b && eqb z d) q in
      rw (
        ← (some-injective _ _ (simp q at e)),
        ← (eqb-true x a (and_left (eqb x a) (eqb y b && eqb z d) q)),
        ← (eqb-true y b (and_left (eqb y b) (eqb z d) r)),
        ← (eqb-true z d (and_right (eqb y b) (eqb z d) r)),
      ) p)
      (λ q. three-in cs ps c (simp q at e))

  three-missed : (cs : List Cluster) (c : ℕ) → letters_from cs c ≡ a ∷ b ∷ d ∷ [] → three_in cs a b d ≡ none → ⊥
  three-missed [] c e n = omega (arith, ap length e)
  three-missed (two k x y ∷ cs) c e n =
      test (eqb k c) (λ r. omega (arith, ap length (simp r at e))) (λ r. three-missed cs c (simp r at e) n)
  three-missed (three k x y z ∷ cs) c e n =
      test (eqb x a && (eqb y b && eqb z d)) (λ q. none-ne-some _ (sym (simp q at n)))
      (λ q.
      test (eqb k c) (λ r. true≢false (sym (here (simp r at e)) ∙ q)) (λ r. three-missed cs c (simp r at e) (simp q at n)))
    where
      here : x ∷ y ∷ z ∷ [] ≡ a ∷ b ∷ d ∷ [] → eqb x a && (eqb y b && eqb z d) ≡ true
      here m =
          let p : x ≡ a = cc in
          let q : y ≡ b = cc in
          let r : z ≡ d = cc in
          simp (p, q, r, eqb_same a, eqb_same b, eqb_same d)

  pub three-listed : (c : ℕ) → three_of a b d ≡ some c → letters_of c ≡ a ∷ b ∷ d ∷ []
  unfolding three_of
  three-listed c e = three-in clusters all_found c e

  pub listed-three : (c : ℕ) → letters_of c ≡ a ∷ b ∷ d ∷ [] → three_of a b d ≡ some c
  unfolding three_of letters_of
  listed-three c e = by (three_of a b d) refl
    where
      by : (o : Option ℕ) → three_of a b d ≡ o → three_of a b d ≡ some c
      by none n = absurd (three-missed clusters c e n)
      by (some k) n = n ∙ ap some (letters-distinct k c (three-listed k n ∙ sym e))

-- ---- what is in no cluster

-- every letter of a cluster has a place, and is not 0
module _ (c : ℕ) {a b : ℕ} {x : List ℕ} (e : letters_of c ≡ a ∷ b ∷ x) where
  pub listed-placed : All (λ l. place_of l ≡ nowhere → ⊥) (a ∷ b ∷ x)
  listed-placed = rw e at (letters-placed c (omega (arith, ap length e)))

  pub listed-high : 0x1100 ≤ a
  listed-high = all_head (rw e at (letters-all (λ l. 0x1100 ≤ l) (λ l h k. h) c (listed-least c e)))

  pub listed-nonzero : All (λ l. l ≡ 0 → ⊥) (a ∷ b ∷ x)
  listed-nonzero = rw e at (letters-nonzero c (λ z. omega (arith, listed-least c e)))

-- so there is no cluster with such a second letter, or third
module _ {P : ℕ → Type 0} (every-letter : (c a b : ℕ) (x : List ℕ) → letters_of c ≡ a ∷ b ∷ x → All (λ l. P l → ⊥) (a ∷ b ∷ x)) where
  second : {a b : ℕ} {x : List ℕ} → P b → All (λ l. P l → ⊥) (a ∷ b ∷ x) → ⊥
  second h (also p (also q r)) = q h

  third : {a b d : ℕ} {x : List ℕ} → P d → All (λ l. P l → ⊥) (a ∷ b ∷ d ∷ x) → ⊥
  third h (also p (also q (also r s))) = r h

  no-two : (a b : ℕ) → P b → two_of a b ≡ none
  no-two a b h = none-unless (two_of a b) (λ k e. second h (every-letter k a b [] (two-listed a b k e)))

  no-three-second : (a b d : ℕ) → P b → three_of a b d ≡ none
  no-three-second a b d h = none-unless (three_of a b d) (λ k e. second h (every-letter k a b (d ∷ []) (three-listed a b d k e)))

  no-three-third : (a b d : ℕ) → P d → three_of a b d ≡ none
  no-three-third a b d h = none-unless (three_of a b d) (λ k e. third h (every-letter k a b (d ∷ []) (three-listed a b d k e)))

pub two-nowhere : (a b : ℕ) → place_of b ≡ nowhere → two_of a b ≡ none
two-nowhere = no-two {P = λ l. place_of l ≡ nowhere} (λ c a b x e. listed-placed c e)

pub second-nowhere : (a b d : ℕ) → place_of b ≡ nowhere → three_of a b d ≡ none
second-nowhere = no-three-second {P = λ l. place_of l ≡ nowhere} (λ c a b x e. listed-placed c e)

pub third-nowhere : (a b d : ℕ) → place_of d ≡ nowhere → three_of a b d ≡ none
third-nowhere = no-three-third {P = λ l. place_of l ≡ nowhere} (λ c a b x e. listed-placed c e)

-- and none begins with plain text
pub two-low : (a b : ℕ) → a < 0x1100 → two_of a b ≡ none
two-low a b h = none-unless (two_of a b) (λ k e. omega (arith, listed-high k (two-listed a b k e)))

pub three-low : (a b d : ℕ) → a < 0x1100 → three_of a b d ≡ none
three-low a b d h = none-unless (three_of a b d) (λ k e. omega (arith, listed-high k (three-listed a b d k e)))

pub two-zero : (a b : ℕ) → b ≡ 0 → None ≡ as_answer (two_of a b)
two-zero a b z = sym (ap as_answer (no-two {P = λ l. l ≡ 0} (λ c a b x e. listed-nonzero c e) a b z))

pub second-zero : (a b d : ℕ) → b ≡ 0 → None ≡ as_answer (three_of a b d)
second-zero a b d z = sym (ap as_answer (no-three-second {P = λ l. l ≡ 0} (λ c a b x e. listed-nonzero c e) a b d z))

pub third-zero : (a b d : ℕ) → d ≡ 0 → None ≡ as_answer (three_of a b d)
third-zero a b d z = sym (ap as_answer (no-three-third {P = λ l. l ≡ 0} (λ c a b x e. listed-nonzero c e) a b d z))

-- ---- the spans

-- a span that is right wherever the letter stands covers the clusters that begin with it
pub covers-when : (a : ℕ) (span : Span) → (0x1100 ≤ a → a < 0x115F → span ≡ initial_span) → (0x1161 ≤ a → a < 0x11A8 → span ≡ peak_span)
    → (0x11A8 ≤ a → a < 0x1200 → span ≡ final_span) → Covers (a ∷ []) span
covers-when a span initial peak final k [] e h = absurd (omega (arith, ap length e))
covers-when a span initial peak final k (b ∷ x) e h = let i = inside (spans-of k e) in (i.code, all_tail i.all)
  where
    inside : {k : ℕ} {y : List ℕ} → Spanned k (a ∷ y) → Inside span k (a ∷ y)
    inside (initials i) = let p = all_head i.all in rw (initial p.0 p.1) i
    inside (peaks i) = let p = all_head i.all in rw (peak p.0 p.1) i
    inside (finals i) = let p = all_head i.all in rw (final p.0 p.1) i

-- with one letter more: a letter in the span, or none that a cluster has there
module _ (front : List ℕ) (l : ℕ) {span : Span} (covers : Covers front span) where
  onward : (k : ℕ) (rest : List ℕ) → letters_of k ≡ (front ++ (l ∷ [])) ++ rest → 1 < length (letters_of k) → In span k × All (Letter span) (l ∷ rest)
  onward k rest e h = covers k (l ∷ rest) (e ∙ append_assoc front (l ∷ []) rest) h

  pub covers_more : Covers (front ++ (l ∷ [])) span
  covers_more k rest e h = let o = onward k rest e h in (o.0, all_tail o.1)

  pub covers-none : (any : Span) → (Letter span l → ⊥) → Covers (front ++ (l ∷ [])) any
  covers-none any n k rest e h = absurd (n (all_head (onward k rest e h).1))

-- ---- the search

-- rows that the code found equal
pub same-row : (x y : Row) → eqb x.first y.first && (eqb x.second y.second && eqb x.third y.third) ≡ true → x ≡ y
same-row x y e =
    let r = and_right (eqb x.first y.first) (eqb x.second y.second && eqb x.third y.third) e in
    rows (eqb-true _ _ (and_left (eqb x.first y.first) (eqb x.second y.second && eqb x.third y.third) e))
    (eqb-true _ _ (and_left (eqb x.second y.second) (eqb x.third y.third) r))
    (eqb-true _ _ (and_right (eqb x.second y.second) (eqb x.third y.third) r))
  where
    rows : {a b c d e f : ℕ} → a ≡ d → b ≡ e → c ≡ f → ◌≡◌ {A = Row} (record { first = a; second = b; third = c }) (record { first = d; second = e; third = f })
    rows p q s = rw (p, q, s)

-- no code from low on, before n, has the row
abbrev pub Missed : Row → ℕ → ℕ → Type 0
Missed row low n = (k : ℕ) → low ≤ k → k < n → row_by k ≡ row → ⊥

pub searched-miss : (row : Row) (low high : ℕ) {n : ℕ} → high ≤ n → Missed row low n → SearchedFrom row low high None
searched-miss row low high h m = miss (λ k i. m k i.0 (omega (arith, i.1)))

-- the two parts of a span: found in the first, or whatever is found in the second
module _ {row : Row} {span : Span} where
  found-second : {r : Answer ℕ} → ((k : ℕ) → (span.low ≤ k) × (k < span.high) → row_by k ≡ row → ⊥) → SearchedFrom row span.outer span.end r → SearchedIn row span r
  found-second n (hit e) = hit e
  found-second n (miss m) = miss (λ k i. ⊎_elim (n k) (m k) i)

  pub found-either : {q r : Answer ℕ} → SearchedFrom row span.low span.high q → MatchOption q (SearchedFrom row span.outer span.end r) (λ k. r ≡ Some k) → SearchedIn row span r
  found-either (hit e) is = rw is (hit e)
  found-either (miss n) s = found-second n s

-- a code with two letters or more has their row, and one that has their row has them
module _ {a b : ℕ} {x : List ℕ} {row : Row} (by : letters_by row ≡ a ∷ b ∷ x) (padded : as_row (take 3 ((a ∷ b ∷ x) ++ (0 ∷ 0 ∷ []))) ≡ row) where
  row-letters : (c : ℕ) → row_by c ≡ row → letters_of c ≡ a ∷ b ∷ x
  row-letters c e = sym (letters-by c) ∙ ap letters_by e ∙ by

  row_listed : (c : ℕ) → letters_of c ≡ a ∷ b ∷ x → row_by c ≡ row
  unfolding row_by
  row_listed c e = ap (λ (l : List ℕ). as_row (take 3 (l ++ (0 ∷ 0 ∷ [])))) e ∙ padded

-- THE SEARCH FINDS THE CLUSTER of two letters, and of three
module _ {a b : ℕ} (second : b ≡ 0 → ⊥) where
  pub two-found : {r : Answer ℕ} {span : Span} → Covers (a ∷ b ∷ []) span → SearchedIn (record { first = a; second = b; third = 0 }) span r → r ≡ as_answer (two_of a b)
  two-found covers (hit {k} e) = sym (ap as_answer (listed-two a b k (row-letters (by_two _ second refl) refl k e)))
  two-found covers (miss m) = sym (ap as_answer (none-unless (two_of a b) none-there))
    where
      none-there : (k : ℕ) → two_of a b ≡ some k → ⊥
      none-there k e =
          let l = two-listed a b k e in
          m k (covers k [] l (omega (arith, ap length l))).0 (row_listed (by_two _ second refl) refl k l)

  pub three-found : {r : Answer ℕ} {d : ℕ} {span : Span} → (d ≡ 0 → ⊥) → Covers (a ∷ b ∷ d ∷ []) span → SearchedIn (record { first = a; second = b; third = d }) span r → r ≡ as_answer (three_of a b d)
  three-found {d} third covers (hit {k} e) = sym (ap as_answer (listed-three a b d k (row-letters (by_three _ second third) refl k e)))
  three-found {d} third covers (miss m) = sym (ap as_answer (none-unless (three_of a b d) none-there))
    where
      none-there : (k : ℕ) → three_of a b d ≡ some k → ⊥
      none-there k e =
          let l = three-listed a b d k e in
          m k (covers k [] l (omega (arith, ap length l))).0 (row_listed (by_three _ second third) refl k l)
