-- Over the database `jamo`, for every text whatever: NFD is full parts, NFC is joined text, and
-- canonical composition (D117) alone is joining.
--
-- In order: NFD (`nfd-parts`); one character more by D117 and by `pair` (`combined-pair`);
-- composition and the joiner run side by side (`composed-join`); NFC (`nfc-join`).
use mathlib.Core.Path.{◌≡◌, refl, sym, ◌∙◌}
use mathlib.Core.Bool.{Bool, true, false, cond, false≢true}
use mathlib.Core.Logic.{◌⊎◌, inl, inr, ⊎_elim}
use mathlib.Core.Option.{Option, none, some}
use mathlib.Core.List.{List, [], ◌∷◌, ◌++◌, append_assoc, append-nil}
use Prim.Native.Nat.{ℕ, zero, suc, ◌≤◌}
use native.Mathlib.Omega.{arith}
use lib.Dec.{ltb, eqb}
use borrow.Author.Tests.{eqb-false, eq-eqb, le-ltb}
use Rattle.laws.specs.Machines.{from}
use Rattle.laws.proofs.Bools.{test, and-not-right}
use Rattle.laws.proofs.Lists.{each_same}
use Rattle.letters.specs.Syllables.{one_step, parts_to, full_parts}
use Rattle.letters.proofs.Chapter3.{step-mapping}
use Rattle.joining.specs.Roles.{pair}
use Rattle.joining.specs.Joining.{opens, held, meets, unless, joiner, join}
use Rattle.joining.specs.declared.joiner.Open.{Open}
use Rattle.joining.specs.declared.joiner.Open.TheVariants.{Nothing}
use Rattle.normal.specs.Forms.{starter, applied, decomposed, reorderable, NoPairWith, NoPair, with_composite, combined, proceeding, composed, nfd, nfc}
use Rattle.normal.specs.Jamo.{tone_class, composite, jamo}
use Rattle.joining.proofs.Joins.{once, meets-pair, stays_open, join-parts}
use Rattle.normal.proofs.Ordering.{ordered_same}
use Rattle.normal.proofs.Composing.{combined-starter, combined-mark}
use Rattle.normal.proofs.Jamo.{class-either, unless_zero, composite-pair, composite-starters}

-- ---- NFD

pub applied-parts : (d c : ℕ) → applied jamo d c ≡ parts_to d c
unfolding parts_to
applied-parts zero c = refl
applied-parts (suc d) c = rw (← (step-mapping c)) (each_same (applied jamo d) (parts_to d) (applied-parts d) (one_step c))

pub decomposed-parts : (x : List ℕ) → decomposed jamo x ≡ full_parts x
decomposed-parts x = each_same (applied jamo 2) (parts_to 2) (applied-parts 2) x

-- with one class beside 0 there is no reorderable pair
class-most : (c : ℕ) → tone_class c ≤ 224
class-most c = ⊎_elim (λ (h : tone_class c ≡ 224). omega arith) (λ (h : tone_class c ≡ 0). omega arith) (class-either c)

no-pair : (a b : ℕ) → reorderable jamo a b ≡ false
no-pair a b =
    ⊎_elim (λ (h : tone_class b ≡ 224). rw (h, le-ltb 224 (tone_class a) (class-most a)))
    (λ (h : tone_class b ≡ 0). rw h (and-not-right (ltb 0 (tone_class a)) (ltb 0 0) refl)) (class-either b)

no-pair-with : (a : ℕ) (x : List ℕ) → NoPairWith jamo a x
no-pair-with a [] = tt
no-pair-with a (b ∷ x) = no-pair a b

no_pairs : (x : List ℕ) → NoPair jamo x
no_pairs [] = tt
no_pairs (a ∷ x) = (no-pair-with a x, no_pairs x)

-- NFD IS FULL PARTS
pub nfd-parts : (x : List ℕ) → nfd jamo x ≡ full_parts x
nfd-parts x = rw (decomposed-parts x) (ordered_same jamo (full_parts x) (no_pairs (full_parts x)))

-- ---- one character more:
-- C and what stands last before it compose where `pair` joins them, and else C stays

-- after x comes c: what it joins to stands after `out`, or it joins to nothing (0) and stands after
-- x
abbrev placed : List ℕ → List ℕ → ℕ → ℕ → List ℕ
placed x out c joined = cond (eqb joined 0) (x ++ c ∷ []) (out ++ joined ∷ [])

composite-placed : (x out : List ℕ) (c p : ℕ) → with_composite x c out [] (unless_zero p) ≡ placed x out c p
composite-placed x out c p = by (eqb p 0)
  where
    by : (b : Bool) → with_composite x c out [] (cond b none (some p)) ≡ cond b (x ++ c ∷ []) (out ++ p ∷ [])
    by true = refl
    by false = refl

-- only starters compose
starter-or-none : (l c : ℕ) → (tone_class c ≡ 0) ⊎ (composite l c ≡ none)
starter-or-none l c = by (composite l c) refl
  where
    by : (o : Option ℕ) → composite l c ≡ o → (tone_class c ≡ 0) ⊎ (composite l c ≡ none)
    by none e = inr e
    by (some p) e = inl (composite-starters l c p e).1

mark-apart : (a c : ℕ) → starter jamo a ≡ false → eqb (pair a c) 0 ≡ true
mark-apart a c h = test (eqb (pair a c) 0) (λ q. q) (λ q. absurd (false≢true (sym h ∙ joined q)))
  where
    joined : eqb (pair a c) 0 ≡ false → starter jamo a ≡ true
    joined q = eq-eqb (tone_class a) 0 (composite-starters a c (pair a c) (composite-pair a c ∙ rw q)).0

pub combined-pair : (x : List ℕ) (a c : ℕ) → combined jamo (x ++ a ∷ []) c ≡ placed (x ++ a ∷ []) x c (pair a c)
combined-pair x a c =
    test (starter jamo a) (λ h. combined-starter jamo x a c h ∙ rw (composite-pair a c) (composite-placed (x ++ a ∷ []) x c (pair a c)))
    (λ h. combined-mark jamo x a c h (λ l. starter-or-none l c) ∙ rw (mark-apart a c h))

-- ---- composition and the joiner run side by side

-- x is what composition has made so far: what the joiner has written and then what it holds open,
-- and C comes to both in the same way
record Holds (o : Open) (out x : List ℕ) : Type 0 where
  so_far : x ≡ out ++ held o
  next : (c : ℕ) → combined jamo x c ≡ placed x out c (meets o c)

-- so it is after any text with a character at its end that the joiner has just read or made
holds-last : (out : List ℕ) (c : ℕ) → Holds (opens c) (out ++ unless (opens c) c) (out ++ c ∷ [])
holds-last out c = record { so_far = rw (append_assoc, once c); next = λ d. combined-pair out c d ∙ rw (meets-pair c d) (same d) }
  where
    same : (d : ℕ) → placed (out ++ c ∷ []) out d (pair c d) ≡ placed (out ++ c ∷ []) (out ++ unless (opens c) c) d (pair c d)
    same d = test (eqb (pair c d) 0) (λ q. rw q) (λ q. rw (stays_open c d (eqb-false (pair c d) 0 q), append-nil))

side_by_side : (y : List ℕ) (o : Open) (out x : List ℕ) → Holds o out x → proceeding jamo x y ≡ out ++ from joiner o y
side_by_side [] o out x h = h.so_far
side_by_side (c ∷ y) o out x h =
    test (eqb (meets o c) 0)
    (λ q. rw (h.next c, q, h.so_far, side_by_side y (opens c) _ _ (holds-last (out ++ held o) c)) (simp append_assoc))
    (λ q. rw (h.next c, q, side_by_side y (opens (meets o c)) _ _ (holds-last out (meets o c))) (simp append_assoc))

-- CANONICAL COMPOSITION IS JOINING
pub composed-join : (x : List ℕ) → composed jamo x ≡ join x
composed-join [] = refl
composed-join (a ∷ y) = side_by_side (a ∷ y) Nothing [] [] (record { so_far = refl; next = λ c. refl })

-- NFC IS JOINED TEXT
pub nfc-join : (x : List ℕ) → nfc jamo x ≡ join x
nfc-join x = rw (nfd-parts x, composed-join (full_parts x)) (join-parts x)
