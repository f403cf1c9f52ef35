-- Laws of an encoding by rows, over any table. In order: the row of a first unit by its range
-- (`row-between`, `row-full`, `row-bad`); kinds exclude each other (`full-bad`, `part-bad`,
-- `part-full`); sequences that follow a row to its end (`Follow`, `follow-full` and back
-- `full-follow`, `full_by`); what is longer than a bad or a full sequence is bad. Then of a table
-- of which every further unit lies between `low` and `high`, and no range is empty (`inner_table`,
-- one computed test): a unit outside that range begins a piece (`starts_by`), what is a proper
-- beginning really goes on to a well-formed sequence (`completes-by`), and THE KIND OF A SEQUENCE
-- IS COHERENT (`coherent-by`).
use mathlib.Core.Path.{◌≡◌, refl, sym}
use mathlib.Core.Bool.{Bool, true, false, cond, not, ◌&&◌}
use mathlib.Core.Logic.{⊎_elim}
use mathlib.Core.Option.{Option, none, some}
use mathlib.Core.List.{List, [], ◌∷◌, ◌++◌}
use Prim.Native.Nat.{ℕ, ◌≤◌, ◌<◌}
use native.Mathlib.Omega.{arith}
use lib.Dec.{T, leb}
use borrow.Author.Tests.{leb-true, not-true}
use Rattle.laws.specs.Ranges.{within, range, look}
use Rattle.laws.proofs.Bools.{T_true, and-T-left, and-T-right}
use Rattle.laws.proofs.Ranges.{within-yes, within-least, within-most, within-below, within-above, within-not, between, uncut, look-between}
use Rattle.encodings.specs.Pieces.{Kind, full, part, bad, Starts}
use Rattle.encodings.specs.Readings.{Completable, Coherent}
use Rattle.encodings.specs.Rows.{Units, ◌to◌, Table, follows, in_row, row_in, kind_by}

-- ---- the row of a first unit: `row-between table 0xC2 0xDF tt (omega arith) (omega arith)`

pub row-between : (table : Table) (lo hi : ℕ) → T (uncut lo hi table) → {a : ℕ} → lo ≤ a → a ≤ hi → row_in table a ≡ between none lo hi table
unfolding row_in
row-between table lo hi t {a} h k = look-between none lo hi a h k table t

-- a first unit that is a sequence by itself, and one that begins none
pub row-full : (table : Table) (a : ℕ) → row_in table a ≡ some [] → kind_by table (a ∷ []) ≡ full
row-full table a e = rw e

pub row-bad : (table : Table) (a : ℕ) → row_in table a ≡ none → kind_by table (a ∷ []) ≡ bad
row-bad table a e = rw e

-- ---- kinds exclude each other

pub full-bad : full ≡ bad → ⊥
full-bad e = let z : ◌≡◌ {A = ℕ} 0 1 = cc in omega arith

pub part-bad : part ≡ bad → ⊥
part-bad e = let z : ◌≡◌ {A = ℕ} 0 1 = cc in omega arith

pub part-full : part ≡ full → ⊥
part-full e = let z : ◌≡◌ {A = ℕ} 0 1 = cc in omega arith

-- ---- sequences that follow a row to its end

pub data Follow : List Units → List ℕ → Type 0 where
  ends : Follow [] []
  goes : {lo hi b : ℕ} {row : List Units} {x : List ℕ} → lo ≤ b → b ≤ hi → Follow row x → Follow ((lo to hi) ∷ row) (b ∷ x)

pub follow-full : {row : List Units} {x : List ℕ} → Follow row x → follows row x ≡ full
follow-full ends = refl
follow-full (goes {lo} {hi} {b} l m f) = rw (within-yes lo hi b l m) (follow-full f)

pub full-follow : (row : List Units) (x : List ℕ) → follows row x ≡ full → Follow row x
full-follow [] [] e = ends
full-follow [] (b ∷ x) e = absurd (full-bad (sym e))
full-follow ((lo to hi) ∷ row) [] e = absurd (part-full e)
full-follow ((lo to hi) ∷ row) (b ∷ x) e = by (within lo hi b) refl e (full-follow row x)
  where
    by : (t : Bool) → within lo hi b ≡ t → cond t (follows row x) bad ≡ full → (follows row x ≡ full → Follow row x)
        → Follow ((lo to hi) ∷ row) (b ∷ x)
    by true q e rest = goes (within-least lo hi b q) (within-most lo hi b q) (rest e)
    by false q e rest = absurd (full-bad (sym e))

pub full_by : (table : Table) (a : ℕ) {row : List Units} {x : List ℕ} → row_in table a ≡ some row → Follow row x → kind_by table (a ∷ x) ≡ full
full_by table a e f = rw e (follow-full f)

-- ---- with more units: what is bad stays bad, and what goes on beyond a full sequence is bad

-- after a unit that was tested: what is bad after the test is bad
tested-bad : (t : Bool) {k k' j : Kind} → (k ≡ j → k' ≡ bad) → cond t k bad ≡ j → cond t k' bad ≡ bad
tested-bad true f e = f e
tested-bad false f e = refl

follows-bad : (row : List Units) (x : List ℕ) (y : List ℕ) → follows row x ≡ bad → follows row (x ++ y) ≡ bad
follows-bad [] [] y e = absurd (full-bad e)
follows-bad [] (b ∷ x) y e = refl
follows-bad ((lo to hi) ∷ row) [] y e = absurd (part-bad e)
follows-bad ((lo to hi) ∷ row) (b ∷ x) y e = tested-bad (within lo hi b) (follows-bad row x y) e

follows-full : (row : List Units) (x : List ℕ) (a : ℕ) (y : List ℕ) → follows row x ≡ full → follows row (x ++ a ∷ y) ≡ bad
follows-full [] [] a y e = refl
follows-full [] (b ∷ x) a y e = refl
follows-full ((lo to hi) ∷ row) [] a y e = absurd (part-full e)
follows-full ((lo to hi) ∷ row) (b ∷ x) a y e = tested-bad (within lo hi b) (follows-full row x a y) e

in-row-bad : (o : Option (List Units)) (x y : List ℕ) → in_row o x ≡ bad → in_row o (x ++ y) ≡ bad
in-row-bad none x y e = refl
in-row-bad (some row) x y e = follows-bad row x y e

in-row-full : (o : Option (List Units)) (x : List ℕ) (a : ℕ) → in_row o x ≡ full → in_row o (x ++ (a ∷ [])) ≡ bad
in-row-full none x a e = refl
in-row-full (some row) x a e = follows-full row x a [] e

-- ---- the ranges of a row

module _ (low high : ℕ) where
  -- each range has a unit, and units from low to high alone
  abbrev pub inner : List Units → Bool
  inner [] = true
  inner ((lo to hi) ∷ row) = (leb low lo && leb hi high) && (leb lo hi && inner row)

  abbrev pub inner_row : Option (List Units) → Bool
  inner_row none = true
  inner_row (some row) = inner row

  module _ (lo hi : ℕ) (row : List Units) (t : T (inner ((lo to hi) ∷ row))) where
    pub inner-least : low ≤ lo
    inner-least = leb-true low lo (T_true _ (and-T-left (leb low lo) (leb hi high) (and-T-left (leb low lo && leb hi high) (leb lo hi && inner row) t)))

    pub inner-most : hi ≤ high
    inner-most = leb-true hi high (T_true _ (and-T-right (leb low lo) (leb hi high) (and-T-left (leb low lo && leb hi high) (leb lo hi && inner row) t)))

    pub inner-some : lo ≤ hi
    inner-some = leb-true lo hi (T_true _ (and-T-left (leb lo hi) (inner row) (and-T-right (leb low lo && leb hi high) (leb lo hi && inner row) t)))

    pub inner-rest : T (inner row)
    inner-rest = and-T-right (leb lo hi) (inner row) (and-T-right (leb low lo && leb hi high) (leb lo hi && inner row) t)

  -- ---- A UNIT OUTSIDE THE RANGE BEGINS A PIECE: it lies in no range of a row

  pub outside : (lo hi b : ℕ) → low ≤ lo → hi ≤ high → within low high b ≡ false → within lo hi b ≡ false
  outside lo hi b h k e =
      ⊎_elim (λ (p : b < low). within-below lo hi b (omega arith)) (λ (p : high < b). within-above lo hi b (omega arith)) (within-not low high b e)

  follows-outside : (row : List Units) → T (inner row) → (x : List ℕ) (b : ℕ) → within low high b ≡ false → follows row (x ++ (b ∷ [])) ≡ bad
  follows-outside [] t [] b e = refl
  follows-outside [] t (c ∷ x) b e = refl
  follows-outside ((lo to hi) ∷ row) t [] b e = simp (outside lo hi b (inner-least lo hi row t) (inner-most lo hi row t) e)
  follows-outside ((lo to hi) ∷ row) t (c ∷ x) b e =
      tested-bad (within lo hi c) {k = bad} (λ q. follows-outside row (inner-rest lo hi row t) x b e) (always (within lo hi c))
    where
      always : (s : Bool) → cond s bad bad ≡ bad
      always true = refl
      always false = refl

  in-row-outside : (o : Option (List Units)) → inner_row o ≡ true → (x : List ℕ) (b : ℕ) → within low high b ≡ false → in_row o (x ++ (b ∷ [])) ≡ bad
  in-row-outside none t x b e = refl
  in-row-outside (some row) t x b e = follows-outside row (rw t tt) x b e

  -- ---- A PROPER BEGINNING GOES ON to a well-formed sequence, by the least unit of each range left

  abbrev leasts : List Units → List ℕ
  leasts [] = []
  leasts ((lo to hi) ∷ row) = lo ∷ leasts row

  follows-leasts : (row : List Units) → T (inner row) → follows row (leasts row) ≡ full
  follows-leasts [] t = refl
  follows-leasts ((lo to hi) ∷ row) t =
      simp (within-yes lo hi lo (omega arith) (inner-some lo hi row t)) (follows-leasts row (inner-rest lo hi row t))

  follows-completes : (row : List Units) → T (inner row) → (x : List ℕ) → follows row x ≡ part → (v : List ℕ) × (follows row (x ++ v) ≡ full)
  follows-completes [] t [] e = absurd (part-full (sym e))
  follows-completes [] t (b ∷ x) e = absurd (part-bad (sym e))
  follows-completes ((lo to hi) ∷ row) t [] e = (leasts ((lo to hi) ∷ row), follows-leasts ((lo to hi) ∷ row) t)
  follows-completes ((lo to hi) ∷ row) t (b ∷ x) e = by (within lo hi b) e (follows-completes row (inner-rest lo hi row t) x)
    where
      by : (s : Bool) → cond s (follows row x) bad ≡ part → (follows row x ≡ part → (v : List ℕ) × (follows row (x ++ v) ≡ full))
          → (v : List ℕ) × (cond s (follows row (x ++ v)) bad ≡ full)
      by true q rest = rest q
      by false q rest = absurd (part-bad (sym q))

  in-row-completes : (o : Option (List Units)) → inner_row o ≡ true → (x : List ℕ) → in_row o x ≡ part → (v : List ℕ) × (in_row o (x ++ v) ≡ full)
  in-row-completes none t x e = absurd (part-bad (sym e))
  in-row-completes (some row) t x e = follows-completes row (rw t tt) x e

  -- ---- of a table all of whose rows are so: one computed test

  abbrev pub inner_table : Table → Bool
  inner_table [] = true
  inner_table (range lo hi row ∷ table) = inner_row row && inner_table table

  row-checked : (a : ℕ) (table : Table) → T (inner_table table) → inner_row (look none a table) ≡ true
  row-checked a [] t = refl
  row-checked a (range lo hi row ∷ table) t =
      by (within lo hi a) (T_true _ (and-T-left (inner_row row) (inner_table table) t))
      (row-checked a table (and-T-right (inner_row row) (inner_table table) t))
    where
      by : (s : Bool) → inner_row row ≡ true → inner_row (look none a table) ≡ true → inner_row (cond s row (look none a table)) ≡ true
      by true here rest = here
      by false here rest = rest

  module _ (table : Table) (t : T (inner_table table)) where
    row-passes : (a : ℕ) → inner_row (row_in table a) ≡ true
    unfolding row_in
    row-passes a = row-checked a table t

    pub row-inner : (a : ℕ) {row : List Units} → row_in table a ≡ some row → T (inner row)
    row-inner a e = rw (rw e at (row-passes a)) tt

    pub starts_by : (b : ℕ) → not (within low high b) ≡ true → Starts (kind_by table) b
    starts_by b e c p = in-row-outside (row_in table c) (row-passes c) p b (not-true (within low high b) e)

    pub completes-by : (a : ℕ) (x : List ℕ) → kind_by table (a ∷ x) ≡ part → Completable (kind_by table) (a ∷ x)
    completes-by a x e = let c = in-row-completes (row_in table a) (row-passes a) x e in record { rest = c.0; completed = c.1 }

    -- THE KIND IS COHERENT
    pub coherent-by : Coherent (kind_by table)
    coherent-by = record {
      empty = refl;
      after-full = λ b p a e. in-row-full (row_in table b) p a e;
      after-bad = λ b p a e. in-row-bad (row_in table b) p (a ∷ []) e;
      completes = completes-by;
    }
