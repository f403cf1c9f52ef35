-- What begins at an index of a text of units. It has: a unit at an index (`nonzero-inside`); in
-- an encoding by rows, a sequence that is begun and not yet whole (`Stands`: the units a ∷ x are
-- open, and the row goes on with `row`), from its first unit (`begins-between`, `begun`) on with
-- each unit in range (`goes_on`), to its last one (`whole-taken`) or to a unit out of range or the
-- end (`broken-taken`); the sequences of one unit (`one-taken`, `none-taken`, `end-taken`). A unit
-- after the end reads as 0, which goes on with no row. Then in any form what taking a piece leaves
-- to be read (`pieces-after`, `units-inside`, `pieces-some`, `Next`, `taken_next`).
use mathlib.Core.Path.{◌≡◌, refl, sym, ◌∙◌, ap}
use mathlib.Core.Bool.{Bool, true, false}
use mathlib.Core.Option.{none, some}
use mathlib.Core.List.{List, [], ◌∷◌, ◌++◌, append-nil, append_assoc, nil≢cons}
use Prim.Native.Nat.{ℕ, suc, ◌+◌, ◌≤◌, ◌<◌}
use native.Mathlib.Omega.{arith}
use lib.ListN.{length, get_or, drop, length-append, length-drop, drop_of_length-le, get_or-eq_default}
use lib.Seq.{drop-cons, drop-drop, drop-append_seam}
use lib.Dec.{T, ltb}
use borrow.Author.Tests.{ltb-true, ltb-false}
use Rattle.laws.specs.Ranges.{within}
use Rattle.laws.specs.Machines.{from}
use Rattle.laws.proofs.Bools.{test}
use Rattle.laws.proofs.Ranges.{within-least, between, uncut}
use Rattle.encodings.specs.Pieces.{full, bad, Piece, good, ill, units, units_of, cutter}
use Rattle.encodings.specs.Rows.{Units, ◌to◌, Table, follows, kind_by}
use Rattle.encodings.specs.Forms.{Form, pieces_in, read_in, ill_in}
use Rattle.encodings.specs.Reading.{good_of, ill_of, taken_in}
use Rattle.encodings.specs.Inner.{BeginsIn}
use Rattle.encodings.specs.declared.answer.Taken.{Taken}
use Rattle.encodings.proofs.Pieces.{open_full, open-part, open-bad, goes-full, goes-part, goes-bad, units_of-pieces}
use Rattle.encodings.proofs.Seams.{Halves, seam}
use Rattle.encodings.proofs.Rows.{row-between}

-- ---- units at an index

-- a unit that is not 0 stands before the end
pub nonzero-inside : (text : List ℕ) (n : ℕ) {b : ℕ} → b ≡ get_or text n 0 → 1 ≤ b → n < length text
nonzero-inside text n e h =
    test (ltb n (length text)) (λ q. ltb-true n (length text) q)
    (λ q. absurd (omega (arith, get_or-eq_default text 0 {n = n} (ltb-false n (length text) q))))

from-index : (text : List ℕ) (n : ℕ) {b : ℕ} → b ≡ get_or text n 0 → n < length text → drop n text ≡ b ∷ drop (suc n) text
from-index text n e h = rw e (drop-cons text n 0 h)

-- what the code's test `!is_within(..)` says of the unit
pub test-true : {t v : Bool} → t ≡ v → t ≡ true → v ≡ true
test-true e h = sym e ∙ h

pub test-false : {t v : Bool} → t ≡ v → t ≡ false → v ≡ false
test-false e h = sym e ∙ h

-- ---- a sequence that is begun

-- what the functions of a row ask: the first unit lies between two bounds between which the table
-- has one row
pub begins-between : (table : Table) (least most : ℕ) → T (uncut least most table) → {text : List ℕ} {at a lo hi : ℕ} → at < length text
    → a ≡ get_or text at 0 → least ≤ a → a ≤ most → lo ≤ least → most ≤ hi → BeginsIn table text at a (between none least most table) lo hi
begins-between table least most t inside is h k p q =
    record { inside = inside; is = is; picks = row-between table least most t h k; least = omega arith; most = omega arith }

module _ (f : Form) where
  -- the units a ∷ x at the index `at` are open, n is the index after them, and they go on with
  -- `row`
  pub record Stands (text : List ℕ) (at a : ℕ) (x : List ℕ) (n : ℕ) (row : List Units) : Type 0 where
    pub reads : pieces_in f (drop at text) ≡ from (cutter f.encoding.kind) (a ∷ x) (drop n text)
    pub goes : (y : List ℕ) → f.encoding.kind (a ∷ x ++ y) ≡ follows row y

  -- the form's kinds are those of a table
  pub begun : (table : Table) → ((u : List ℕ) → f.encoding.kind u ≡ kind_by table u) → {text : List ℕ} {at a lo hi : ℕ} {r : Units} {row : List Units}
      → BeginsIn table text at a (some (r ∷ row)) lo hi → Stands text at a [] (suc at) (r ∷ row)
  begun table same {text} {at} {a} {r = r} {row = row} h = record {
    reads = rw (from-index text at h.is h.inside) (open-part f.encoding.kind a (drop (suc at) text) (goes []));
    goes = goes;
  }
    where
      goes : (y : List ℕ) → f.encoding.kind (a ∷ y) ≡ follows (r ∷ row) y
      goes y = same (a ∷ y) ∙ rw h.picks

-- b is the unit at the index m after them
module _ {f : Form} {text : List ℕ} {at a n : ℕ} {x : List ℕ} {lo hi : ℕ} {row : List Units} (s : Stands f text at a x n ((lo to hi) ∷ row))
    {b m : ℕ} (is : b ≡ get_or text m 0) (place : m ≡ n) where
  there : b ≡ get_or text n 0
  there = rw place at is

  broken-at : within lo hi b ≡ false → n < length text → pieces_in f (drop at text) ≡ ill (a ∷ x) ∷ pieces_in f (b ∷ drop (suc n) text)
  broken-at e h = s.reads ∙ rw (from-index text n there h) (goes-bad f.encoding.kind a x b (drop (suc n) text) (s.goes (b ∷ []) ∙ rw e))

  broken-end : length text ≤ n → pieces_in f (drop at text) ≡ ill (a ∷ x) ∷ []
  broken-end h = s.reads ∙ rw (drop_of_length-le text h)

  -- b is out of range, or there is none
  pub broken-taken : within lo hi b ≡ false → {r : Taken} → r ≡ ill_of (length (a ∷ x)) → r ≡ taken_in f (pieces_in f (drop at text))
  broken-taken e q =
      test (ltb n (length text)) (λ h. q ∙ sym (ap (taken_in f) (broken-at e (ltb-true n (length text) h))))
      (λ h. q ∙ sym (ap (taken_in f) (broken-end (ltb-false n (length text) h))))

  -- b is in range
  in-text : 1 ≤ lo → within lo hi b ≡ true → n < length text
  in-text least e = nonzero-inside text n there (omega (arith, within-least lo hi b e))

-- b is in range: the sequence goes on
pub goes_on : {f : Form} {text : List ℕ} {at a n : ℕ} {x : List ℕ} {lo hi : ℕ} {r : Units} {row : List Units}
    → Stands f text at a x n ((lo to hi) ∷ r ∷ row) → {b m : ℕ} → b ≡ get_or text m 0 → m ≡ n → 1 ≤ lo → within lo hi b ≡ true
    → Stands f text at a (x ++ (b ∷ [])) (suc n) (r ∷ row)
goes_on {f} {text} {at} {a} {n} {x} s {b} is place least e = record {
  reads =
      s.reads ∙ rw (from-index text n (there s is place) (in-text s is place least e))
      (goes-part f.encoding.kind a x b (drop (suc n) text) (s.goes (b ∷ []) ∙ rw e));
  goes = λ y. rw append_assoc (s.goes (b ∷ y) ∙ rw e);
}

-- or it is whole
pub whole-taken : {f : Form} {text : List ℕ} {at a n : ℕ} {x : List ℕ} {lo hi : ℕ} → Stands f text at a x n ((lo to hi) ∷ [])
    → {b m : ℕ} → b ≡ get_or text m 0 → m ≡ n → 1 ≤ lo → within lo hi b ≡ true
    → {r : Taken} → r ≡ good_of (f.encoding.code (a ∷ x ++ (b ∷ []))) (length (a ∷ x ++ (b ∷ []))) → r ≡ taken_in f (pieces_in f (drop at text))
whole-taken {f} {text} {at} {a} {n} {x} s {b} is place least e q = q ∙ sym (ap (taken_in f) first)
  where
    first : pieces_in f (drop at text) ≡ good (a ∷ x ++ (b ∷ [])) ∷ pieces_in f (drop (suc n) text)
    first =
        s.reads ∙ rw (from-index text n (there s is place) (in-text s is place least e))
        (goes-full f.encoding.kind a x b (drop (suc n) text) (s.goes (b ∷ []) ∙ rw e))

-- ---- one unit, and none

module _ (f : Form) (text : List ℕ) (at : ℕ) where
  pub end-taken : length text ≤ at → {r : Taken} → r ≡ good_of 0 0 → r ≡ taken_in f (pieces_in f (drop at text))
  end-taken h q = q ∙ rw (drop_of_length-le text h)

  module _ (h : at < length text) {a : ℕ} (is : a ≡ get_or text at 0) where
    pub one-taken : f.encoding.kind (a ∷ []) ≡ full → {r : Taken} → r ≡ good_of (f.encoding.code (a ∷ [])) 1
        → r ≡ taken_in f (pieces_in f (drop at text))
    one-taken e q = q ∙ rw (from-index text at is h) (sym (ap (taken_in f) (open_full f.encoding.kind a (drop (suc at) text) e)))

    pub none-taken : f.encoding.kind (a ∷ []) ≡ bad → {r : Taken} → r ≡ ill_of 1 → r ≡ taken_in f (pieces_in f (drop at text))
    none-taken e q = q ∙ rw (from-index text at is h) (sym (ap (taken_in f) (open-bad f.encoding.kind a (drop (suc at) text) e)))

-- ---- what is left to be read

module _ (f : Form) where
  -- r was taken at an index: what is read from there is r's code point and then what is read after
  -- it, so are the ill-formed subparts counted, and at least one unit was taken, and none after the
  -- end
  pub record Next (text : List ℕ) (at : ℕ) (r : Taken) : Type 0 where
    pub read : read_in f (drop at text) ≡ r.code ∷ read_in f (drop (at + r.size) text)
    pub ills : ill_in f (drop at text) ≡ r.ill + ill_in f (drop (at + r.size) text)
    pub more : 1 ≤ r.size
    pub inside : at + r.size ≤ length text
    pub few : r.ill ≤ 1

  -- a piece in front: after its units the rest is read, and it has a unit
  module _ (text : List ℕ) (at : ℕ) (w : Piece ℕ) (P : List (Piece ℕ)) (e : pieces_in f (drop at text) ≡ w ∷ P) where
    halves : Halves f.encoding.kind (drop at text) (w ∷ []) P
    halves = seam f.encoding.kind (drop at text) (w ∷ []) P e

    split : drop at text ≡ units w ++ units_of P
    split = rw append-nil at halves.text

    pub pieces-after : pieces_in f (drop (at + length (units w)) text) ≡ P
    pieces-after = rw (← (drop-drop (length (units w)) at text), split, drop-append_seam) halves.after

    some-units : (u : List ℕ) → units w ≡ u → 1 ≤ length u
    some-units [] q = absurd (nil≢cons (rw (append-nil, q) at halves.before))
    some-units (a ∷ u) q = omega arith

    pub units-inside : at ≤ length text → at + length (units w) ≤ length text
    units-inside h = omega (arith, length-drop at text, simp length-append at (ap length split))

  -- there is a piece before the end
  pub pieces-some : (text : List ℕ) (at : ℕ) → at < length text → pieces_in f (drop at text) ≡ [] → ⊥
  pieces-some text at h e =
      omega (arith, length-drop at text, ap length (sym (units_of-pieces f.encoding.kind (drop at text)) ∙ ap units_of e))

  taken-pieces : (text : List ℕ) (at : ℕ) → at < length text → (P : List (Piece ℕ)) → pieces_in f (drop at text) ≡ P → Next text at (taken_in f P)
  taken-pieces text at h [] e = absurd (pieces-some text at h e)
  taken-pieces text at h (good u ∷ P) e = record {
    read = rw (e, pieces-after text at (good u) P e);
    ills = rw (e, pieces-after text at (good u) P e) (omega arith);
    more = some-units text at (good u) P e u refl;
    inside = units-inside text at (good u) P e (omega arith);
    few = omega arith;
  }
  taken-pieces text at h (ill u ∷ P) e = record {
    read = rw (e, pieces-after text at (ill u) P e);
    ills = rw (e, pieces-after text at (ill u) P e) (omega arith);
    more = some-units text at (ill u) P e u refl;
    inside = units-inside text at (ill u) P e (omega arith);
    few = omega arith;
  }

  pub taken_next : (text : List ℕ) (at : ℕ) → at < length text → {r : Taken} → r ≡ taken_in f (pieces_in f (drop at text)) → Next text at r
  taken_next text at h q = rw q (taken-pieces text at h (pieces_in f (drop at text)) refl)

-- the same where the code has n units of a type of its own
pub taken-within : (f : Form) (units : List ℕ) {at n : ℕ} {r : Taken} → length units ≡ n → at < n → r ≡ taken_in f (pieces_in f (drop at units))
    → Next f units at r
taken-within f units {at} long h q = taken_next f units at (omega arith) q
