-- A record that was written: how long it is, and what reading finds in it.
--
-- In order: its length (`record-length`); its object, berth, size and label (`record-object`,
-- `record-berth`, `record-size`, `record-label`); its spare byte and what comes after the label
-- (`record-spare`, `record-after`).
use mathlib.Core.Path.{◌≡◌, refl, sym, ◌∙◌}
use mathlib.Core.List.{List}
use Prim.Native.Nat.{ℕ, ◌-◌, ◌^◌, ◌≤◌, ◌<◌}
use native.Mathlib.Omega.{arith}
use lib.ListN.{length, get_or, length-append, length-replicate}
use lib.Seq.{take-append_seam, drop-append_seam, drop-drop}
use Rattle.labels.specs.Records.{high_first, zeros, record_of, object_of, berth_of, size_of, label_of, after_label}
use Rattle.labels.proofs.Numbers.{number-high}

module _ (object berth : ℕ) (label : List ℕ) where
  -- a record is 96 bytes long
  pub record-length : length label ≤ 88 → length (record_of object berth label) ≡ 96
  unfolding record_of high_first
  record-length h = simp (length-append, length-replicate) (omega arith)

  -- WHAT READING FINDS in a record that was written: its object and its berth, if four bytes and
  -- two can hold them
  pub record-object : object < 2 ^ 32 → object_of (record_of object berth label) ≡ object
  unfolding record_of high_first object_of
  record-object h = number-high 4 object h

  pub record-berth : berth < 2 ^ 16 → berth_of (record_of object berth label) ≡ berth
  unfolding record_of high_first berth_of
  record-berth h = number-high 2 berth h

  -- the length of its label, and the label
  pub record-size : size_of (record_of object berth label) ≡ length label
  unfolding record_of high_first
  record-size = refl

  pub record-label : label_of (record_of object berth label) ≡ label
  unfolding record_of high_first label_of
  record-label = take-append_seam label (zeros (88 - length label))

  -- byte 7 is zero, and so are the bytes after the label
  pub record-spare : get_or (record_of object berth label) 7 0 ≡ 0
  unfolding record_of high_first
  record-spare = refl

  pub record-after : after_label (record_of object berth label) ≡ zeros (88 - length label)
  unfolding record_of high_first
  record-after = sym (drop-drop (length label) 8 (record_of object berth label)) ∙ drop-append_seam label (zeros (88 - length label))
