-- The layout of a record of 96 bytes: how the code finds the first byte that breaks it, and which
-- records are good.
--
-- It has: the lengths of the label and of what comes after it (`label-length`, `after-length`);
-- the returns of the judge of a record (`fault-long`, `fault-spare`, `fault-ill`, `fault-tail`,
-- `fault-none`); a good record (`Good`, `layout-good`, `good-layout`); a record that was written is
-- good (`record-good`, `written-passes`), and a good one is what writing makes of what reading
-- finds in it (`object-below`, `berth-below`, `good-back`, `record-back`). So THE GOOD RECORDS ARE
-- THOSE THAT WRITING MAKES (`good-written`).
use mathlib.Core.Path.{◌≡◌, sym, ◌∙◌, ap}
use mathlib.Core.Logic.{◌↔◌}
use mathlib.Core.List.{List, [], ◌∷◌, ◌++◌}
use Prim.Native.Nat.{ℕ, ◌+◌, ◌-◌, ◌^◌, ◌≤◌, ◌<◌}
use native.Mathlib.Omega.{arith}
use lib.Dec.{ltb, eqb}
use lib.ListN.{length, get_or, take, drop, length-drop, length-replicate, take-append-drop}
use lib.Seq.{length-take-le, drop-drop, drop-cons}
use borrow.Author.Tests.{lt-ltb, le-ltb, ltb-false, eq-eqb, ne_eqb, eqb-true}
use Rattle.std.specs.Prelude.{Option, Some, None, position}
use Rattle.std.proofs.lemmas.Slice.{between_to_end}
use Rattle.laws.specs.Lists.{All}
use Rattle.laws.proofs.Lists.{all_left, all_right}
use Rattle.answers.specs.Checks.{passes, in_order}
use Rattle.answers.proofs.Orders.{order-first, order-rest, passes-true, passes-false}
use Rattle.encodings.proofs.Ills.{first-ill-none, first-ill-end}
use Rattle.utf8.specs.Utf8.{ill_text, first_ill}
use Rattle.utf8.proofs.Round.{encodes8}
use Rattle.labels.specs.Records.{high_first, zeros, record_of, object_of, berth_of, size_of, label_of, after_label, is_set, first_set, too_long, not_spare, ill_formed, tail_set, layout, Written}
use Rattle.labels.specs.Inner.{faulty}
use Rattle.labels.proofs.Numbers.{high-number, number-below}
use Rattle.labels.proofs.Records.{record-size, record-label, record-spare, record-after}
use Rattle.labels.proofs.Places.{set-some, set-none, set-zeros, zeros-set}

-- ---- the judge of a record: r and s are the indices that it found

module _ (bytes : List ℕ) where
  -- the length byte is over 88
  pub fault-long : 88 < size_of bytes → layout bytes ≡ faulty (Some 6)
  unfolding layout
  fault-long h = simp (lt-ltb 88 (size_of bytes) h)

  -- byte 7 is not zero
  pub fault-spare : size_of bytes ≤ 88 → (get_or bytes 7 0 ≡ 0 → ⊥) → layout bytes ≡ faulty (Some 7)
  unfolding layout
  fault-spare short h = simp (le-ltb 88 (size_of bytes) short, ne_eqb (get_or bytes 7 0) 0 h)

module _ (bytes : List ℕ) (size : length bytes ≡ 96) (short : size_of bytes ≤ 88) where
  -- the label is as long as the length byte says, and the rest of the record comes after it
  pub label-length : length (label_of bytes) ≡ size_of bytes
  unfolding label_of
  label-length = length-take-le (size_of bytes) (drop 8 bytes) (omega (arith, length-drop 8 bytes))

  pub after-length : length (after_label bytes) ≡ 88 - size_of bytes
  after-length = omega (arith, length-drop (8 + size_of bytes) bytes)

  module _ (spare : get_or bytes 7 0 ≡ 0) {r : ℕ} (ill : r ≡ first_ill (take (8 + size_of bytes - 8) (drop 8 bytes))) where
    -- the part of the record that is judged is the label
    found : r ≡ first_ill (label_of bytes)
    unfolding label_of
    found =
        let n : 8 + size_of bytes - 8 ≡ size_of bytes = omega arith in
        rw n at ill

    -- the label is ill-formed
    pub fault-ill : r < size_of bytes → layout bytes ≡ faulty (Some (8 + r))
    unfolding layout
    fault-ill h =
        let k : first_ill (label_of bytes) < length (label_of bytes) = omega (arith, found, label-length) in
        rw found
        (simp (
          le-ltb 88 (size_of bytes) short,
          eq-eqb (get_or bytes 7 0) 0 spare,
          lt-ltb (first_ill (label_of bytes)) (length (label_of bytes)) k,
        ))

    module _ (formed : size_of bytes ≤ r) {last : Option ℕ} (searched : last ≡ position is_set (take (length bytes - (8 + size_of bytes)) (after_label bytes))) where
      well : length (label_of bytes) ≤ first_ill (label_of bytes)
      well = omega (arith, found, label-length)

      -- what was searched is the rest of the record
      after-found : position is_set (after_label bytes) ≡ last
      after-found = sym (rw (between_to_end bytes (8 + size_of bytes) (length bytes) (omega arith)) at searched)

      -- a byte after the label is not zero
      pub fault-tail : {set : ℕ} → last ≡ Some set → layout bytes ≡ faulty (Some (8 + size_of bytes + set))
      unfolding layout
      fault-tail q =
          let k = set-some (after_label bytes) (after-found ∙ q) in
          rw (← k.1)
          (simp (
            le-ltb 88 (size_of bytes) short,
            eq-eqb (get_or bytes 7 0) 0 spare,
            le-ltb (first_ill (label_of bytes)) (length (label_of bytes)) well,
            lt-ltb (first_set (after_label bytes)) (length (after_label bytes)) k.0,
          ))

      -- nothing breaks the layout
      pub fault-none : last ≡ None → layout bytes ≡ faulty None
      unfolding layout
      fault-none q =
          let k = set-none (after_label bytes) (after-found ∙ q) in
          simp (
            le-ltb 88 (size_of bytes) short,
            eq-eqb (get_or bytes 7 0) 0 spare,
            le-ltb (first_ill (label_of bytes)) (length (label_of bytes)) well,
            le-ltb (first_set (after_label bytes)) (length (after_label bytes)) k,
          )

-- ---- a good record

-- its length byte is at most 88, byte 7 is zero, its label is well-formed, and only zeros come
-- after it
pub record Good (bytes : List ℕ) : Type 0 where
  pub short : size_of bytes ≤ 88
  pub spare : get_or bytes 7 0 ≡ 0
  pub formed : ill_text (label_of bytes) ≡ 0
  pub tail : after_label bytes ≡ zeros (88 - size_of bytes)

-- the four checks by themselves
module _ (bytes : List ℕ) (e : layout bytes ≡ passes) where
  after_first : in_order (not_spare bytes ∷ ill_formed bytes ∷ tail_set bytes ∷ []) ≡ passes
  unfolding layout
  after_first = order-rest (too_long bytes) (not_spare bytes ∷ ill_formed bytes ∷ tail_set bytes ∷ []) e

  after-second : in_order (ill_formed bytes ∷ tail_set bytes ∷ []) ≡ passes
  after-second = order-rest (not_spare bytes) (ill_formed bytes ∷ tail_set bytes ∷ []) after_first

  good-short : size_of bytes ≤ 88
  unfolding layout
  good-short =
      ltb-false 88 (size_of bytes)
      (passes-false (ltb 88 (size_of bytes)) 7 6 (order-first (too_long bytes) (not_spare bytes ∷ ill_formed bytes ∷ tail_set bytes ∷ []) e))

  good-spare : get_or bytes 7 0 ≡ 0
  good-spare =
      eqb-true (get_or bytes 7 0) 0
      (passes-true (eqb (get_or bytes 7 0) 0) 7 7 (order-first (not_spare bytes) (ill_formed bytes ∷ tail_set bytes ∷ []) after_first))

  good-formed : ill_text (label_of bytes) ≡ 0
  good-formed =
      first-ill-end encodes8 (label_of bytes)
      (ltb-false (first_ill (label_of bytes)) (length (label_of bytes))
      (passes-false (ltb (first_ill (label_of bytes)) (length (label_of bytes))) 7 (8 + first_ill (label_of bytes))
      (order-first (ill_formed bytes) (tail_set bytes ∷ []) after-second)))

  good-tail : after_label bytes ≡ zeros (length (after_label bytes))
  good-tail =
      zeros-set (after_label bytes)
      (ltb-false (first_set (after_label bytes)) (length (after_label bytes))
      (passes-false (ltb (first_set (after_label bytes)) (length (after_label bytes))) 7 (8 + size_of bytes + first_set (after_label bytes))
      (order-first (tail_set bytes) [] (order-rest (ill_formed bytes) (tail_set bytes ∷ []) after-second))))

-- 96 bytes keep the layout if and only if they are a good record
pub layout-good : (bytes : List ℕ) → length bytes ≡ 96 → layout bytes ≡ passes → Good bytes
layout-good bytes size e = record {
  short = good-short bytes e;
  spare = good-spare bytes e;
  formed = good-formed bytes e;
  tail = good-tail bytes e ∙ ap zeros (after-length bytes size (good-short bytes e));
}

pub good-layout : (bytes : List ℕ) → Good bytes → layout bytes ≡ passes
unfolding layout
good-layout bytes g =
    let well : length (label_of bytes) ≤ first_ill (label_of bytes) = omega (arith, first-ill-none encodes8 (label_of bytes) g.formed) in
    let unset : length (after_label bytes) ≤ first_set (after_label bytes) =
    rw g.tail (omega (arith, length-replicate {A = ℕ} (88 - size_of bytes) 0, set-zeros (88 - size_of bytes))) in
    simp (
      le-ltb 88 (size_of bytes) g.short,
      eq-eqb (get_or bytes 7 0) 0 g.spare,
      le-ltb (first_ill (label_of bytes)) (length (label_of bytes)) well,
      le-ltb (first_set (after_label bytes)) (length (after_label bytes)) unset,
    )

-- a record that was written is good
pub record-good : (object berth : ℕ) (label : List ℕ) → length label ≤ 88 → ill_text label ≡ 0 → Good (record_of object berth label)
record-good object berth label h e = record {
  short = rw (record-size object berth label) h;
  spare = record-spare object berth label;
  formed = rw (record-label object berth label) e;
  tail = record-after object berth label ∙ ap (λ (n : ℕ). zeros (88 - n)) (sym (record-size object berth label));
}

pub written-passes : (object berth : ℕ) (label : List ℕ) → length label ≤ 88 → ill_text label ≡ 0 → layout (record_of object berth label) ≡ passes
written-passes object berth label h e = good-layout (record_of object berth label) (record-good object berth label h e)

-- ---- a good record is what writing makes of what reading finds in it

module _ {bytes : List ℕ} (all : All (λ b. b < 256) bytes) where
  all_take : (n : ℕ) → All (λ b. b < 256) (take n bytes)
  all_take n = all_left (take n bytes) (drop n bytes) (rw take-append-drop all)

  all_drop : (n : ℕ) → All (λ b. b < 256) (drop n bytes)
  all_drop n = all_right (take n bytes) (drop n bytes) (rw take-append-drop all)

  -- the numbers of its bytes fit four bytes and two
  pub object-below : length bytes ≡ 96 → object_of bytes < 2 ^ 32
  unfolding object_of
  object-below size =
      let n : length (take 4 bytes) ≡ 4 = length-take-le 4 bytes (omega arith) in
      rw n at (number-below (all_take 4))

  pub berth-below : length bytes ≡ 96 → berth_of bytes < 2 ^ 16
  unfolding berth_of
  berth-below size =
      let n : length (take 2 (drop 4 bytes)) ≡ 2 = length-take-le 2 (drop 4 bytes) (omega (arith, length-drop 4 bytes)) in
      rw n at (number-below (all_left (take 2 (drop 4 bytes)) (drop 2 (drop 4 bytes)) (rw take-append-drop (all_drop 4))))

  high-object : length bytes ≡ 96 → high_first 4 (object_of bytes) ≡ take 4 bytes
  unfolding object_of
  high-object size =
      let n : length (take 4 bytes) ≡ 4 = length-take-le 4 bytes (omega arith) in
      rw n at (high-number (all_take 4))

  high-berth : length bytes ≡ 96 → high_first 2 (berth_of bytes) ≡ take 2 (drop 4 bytes)
  unfolding berth_of
  high-berth size =
      let n : length (take 2 (drop 4 bytes)) ≡ 2 = length-take-le 2 (drop 4 bytes) (omega (arith, length-drop 4 bytes)) in
      rw n at (high-number (all_left (take 2 (drop 4 bytes)) (drop 2 (drop 4 bytes)) (rw take-append-drop (all_drop 4))))

-- 96 bytes by their parts
module _ (bytes : List ℕ) (size : length bytes ≡ 96) where
  from-six : drop 6 bytes ≡ get_or bytes 6 0 ∷ get_or bytes 7 0 ∷ drop 8 bytes
  from-six = drop-cons bytes 6 0 (omega arith) ∙ ap (λ (l : List ℕ). get_or bytes 6 0 ∷ l) (drop-cons bytes 7 0 (omega arith))

  from-eight : drop 8 bytes ≡ label_of bytes ++ after_label bytes
  unfolding label_of
  from-eight =
      sym (take-append-drop (size_of bytes) (drop 8 bytes))
      ∙ ap (λ (l : List ℕ). take (size_of bytes) (drop 8 bytes) ++ l) (drop-drop (size_of bytes) 8 bytes)

  by_parts : bytes ≡ take 4 bytes ++ (take 2 (drop 4 bytes) ++ (get_or bytes 6 0 ∷ get_or bytes 7 0 ∷ (label_of bytes ++ after_label bytes)))
  by_parts =
      sym (take-append-drop 4 bytes)
      ∙ ap (λ (l : List ℕ). take 4 bytes ++ l)
      (sym (take-append-drop 2 (drop 4 bytes))
      ∙ ap (λ (l : List ℕ). take 2 (drop 4 bytes) ++ l)
      (drop-drop 2 4 bytes ∙ from-six ∙ ap (λ (l : List ℕ). get_or bytes 6 0 ∷ get_or bytes 7 0 ∷ l) from-eight))

-- the record of what is read in a good record is that record
pub good-back : (bytes : List ℕ) → length bytes ≡ 96 → All (λ b. b < 256) bytes → Good bytes
    → record_of (object_of bytes) (berth_of bytes) (label_of bytes) ≡ bytes
unfolding record_of
good-back bytes size all g =
    let n = label-length bytes size g.short in
    rw (high-object all size, high-berth all size, n, ← g.tail) (rw g.spare at (sym (by_parts bytes size)))

-- the same of 96 bytes that keep the layout
pub record-back : (bytes : List ℕ) → length bytes ≡ 96 → All (λ b. b < 256) bytes → layout bytes ≡ passes
    → record_of (object_of bytes) (berth_of bytes) (label_of bytes) ≡ bytes
record-back bytes size all e = good-back bytes size all (layout-good bytes size e)

-- THE GOOD RECORDS ARE THOSE THAT WRITING MAKES: 96 bytes keep the layout if and only if they are
-- the record of some object, some berth and some well-formed label of at most 88 bytes
pub good-written : (bytes : List ℕ) → length bytes ≡ 96 → All (λ b. b < 256) bytes → (layout bytes ≡ passes) ↔ Written bytes
good-written bytes size all = (
  (λ e. let g = layout-good bytes size e in record {
    object = object_of bytes;
    berth = berth_of bytes;
    label = label_of bytes;
    object-fits = object-below all size;
    berth-fits = berth-below all size;
    formed = g.formed;
    short = rw (label-length bytes size g.short) g.short;
    is = sym (record-back bytes size all e);
  }),
  (λ w. rw w.is (written-passes w.object w.berth w.label w.short w.formed)),
)
