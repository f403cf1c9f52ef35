-- A record's label, entry and berth, of any image.
--
-- In order: where the label's length is (`size-at`); there is no such record (`label-none`,
-- `berth-none`); the length is over 88 (`label-long`); else the label (`label_is`), the entry
-- (`entry-part`) and its berth (`berth-entry`); no label is over 88 bytes (`label-short`).
use mathlib.Core.Path.{◌≡◌, refl, ◌∙◌, ap}
use mathlib.Core.Bool.{Bool, true, false, cond, ◌&&◌}
use mathlib.Core.List.{List, []}
use Prim.Native.Nat.{ℕ, ◌+◌, ◌-◌, ◌*◌, ◌≤◌, ◌<◌}
use native.Mathlib.Omega.{arith}
use lib.Dec.{ltb, leb}
use lib.ListN.{length, get_or, take, drop, length-take, length-drop}
use lib.Seq.{get_or-take, get_or-drop, drop-drop}
use borrow.Author.Tests.{lt-ltb, le-ltb, le-leb, lt-leb, leb-true}
use Rattle.laws.proofs.Bools.{and_right}
use Rattle.labels.specs.Records.{size_of, label_of, entry_of}
use Rattle.labels.specs.Images.{count_of, record_at, label_at, berth_at}
use Rattle.labels.specs.declared.record.Entry.{Entry}
use Rattle.labels.proofs.Finding.{from-eighth}

module _ (image : List ℕ) (k : ℕ) where
  pub size-at : size_of (record_at image k) ≡ get_or image (96 * k + 6) 0
  unfolding record_at
  size-at = get_or-take 96 (drop (96 * k) image) 6 0 (omega arith) ∙ get_or-drop (96 * k) image 6 0

  pub label-none : count_of image ≤ k → [] ≡ label_at image k
  unfolding label_at
  label-none h = rw (le-ltb k (count_of image) h)

  pub berth-none : count_of image ≤ k → 0 ≡ berth_at image k
  unfolding berth_at
  berth-none h = rw (le-ltb k (count_of image) h)

  module _ (has : k < count_of image) where
    pub label-long : 88 < get_or image (96 * k + 6) 0 → [] ≡ label_at image k
    unfolding label_at
    label-long h = rw (lt-ltb k (count_of image) has, size-at, lt-leb (get_or image (96 * k + 6) 0) 88 h)

    label-bytes : get_or image (96 * k + 6) 0 ≤ 88
        → take (get_or image (96 * k + 6) 0) (drop 8 (drop (96 * k) image)) ≡ take (get_or image (96 * k + 6) 0) (drop 8 (record_at image k))
    unfolding record_at
    label-bytes h =
        from-eighth (get_or image (96 * k + 6) 0) (drop (96 * k) image) h (omega (arith, length-drop (96 * k) image, has))

    pub label_is : get_or image (96 * k + 6) 0 ≤ 88
        → take (96 * k + 8 + get_or image (96 * k + 6) 0 - (96 * k + 8)) (drop (96 * k + 8) image) ≡ label_at image k
    unfolding label_at label_of
    label_is h =
        let m : 96 * k + 8 + get_or image (96 * k + 6) 0 - (96 * k + 8) ≡ get_or image (96 * k + 6) 0 = omega arith in
        rw (lt-ltb k (count_of image) has, size-at, le-leb (get_or image (96 * k + 6) 0) 88 h, m, ← drop-drop 8 (96 * k) image) (label-bytes h)

    pub entry-part : {entry : Entry} → entry ≡ entry_of (take (96 * k + 96 - 96 * k) (drop (96 * k) image)) → entry ≡ entry_of (record_at image k)
    unfolding record_at
    entry-part e =
        let n : 96 * k + 96 - 96 * k ≡ 96 = omega arith in
        rw n at e

    pub berth-entry : {entry : Entry} → entry ≡ entry_of (record_at image k) → entry.berth ≡ berth_at image k
    unfolding berth_at
    berth-entry e = ap (λ (x : Entry). x.berth) e ∙ rw (lt-ltb k (count_of image) has)

  -- no label is over 88 bytes, whatever the image
  pub label-short : length (label_at image k) ≤ 88
  unfolding label_at label_of
  label-short = by (ltb k (count_of image) && leb (size_of (record_at image k)) 88) refl
    where
      by : (b : Bool) → ltb k (count_of image) && leb (size_of (record_at image k)) 88 ≡ b
          → length (cond b (take (size_of (record_at image k)) (drop 8 (record_at image k))) []) ≤ 88
      by true e =
          let h = leb-true (size_of (record_at image k)) 88 (and_right (ltb k (count_of image)) (leb (size_of (record_at image k)) 88) e) in
          omega (arith, length-take (size_of (record_at image k)) (drop 8 (record_at image k)))
      by false e = omega arith
