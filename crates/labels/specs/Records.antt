-- A record of the label file has 96 bytes (document 01, 'The label file'): 0–3 the drawing object
-- and 4–5 the berth number, both high byte first; 6 the label's length n, 0 to 88; 7 zero; 8–95 n
-- bytes of well-formed UTF-8, then zeros. This file says what writing makes (`record_of`), what
-- reading finds, and which byte is the first that breaks the layout (`layout`).
use Rattle.std.specs.Prelude.{◌≡◌, Bool, cond, not, List, [], ◌∷◌, ◌++◌, ℕ, zero, suc, ◌+◌, ◌-◌, ◌*◌, ◌/◌, ◌%◌, ◌^◌, ◌≤◌, ◌<◌, ltb, eqb, length, get_or, take, drop, replicate}
use Rattle.laws.specs.Lists.{first_where}
use Rattle.answers.specs.Checks.{Check, passes, refuses, in_order}
use Rattle.utf8.specs.Utf8.{ill_text, first_ill}
use Rattle.labels.specs.declared.record.Entry.{Entry}

-- ---- numbers, high byte first

-- a number in n bytes
unfoldable pub high_first : ℕ → ℕ → List ℕ
high_first zero v = []
high_first (suc n) v = (v / 256 ^ n % 256) ∷ high_first n v

-- the number that bytes are
unfoldable pub number_of : List ℕ → ℕ
number_of [] = 0
number_of (b ∷ x) = b * 256 ^ length x + number_of x

-- ---- writing

abbrev pub zeros : ℕ → List ℕ
zeros n = replicate n 0

-- a fresh record
unfoldable pub fresh_record : List ℕ
fresh_record = zeros 96

-- THE RECORD of an object, a berth and a label of at most 88 bytes
unfoldable pub record_of : ℕ → ℕ → List ℕ → List ℕ
record_of object berth label =
    high_first 4 object ++ (high_first 2 berth ++ (length label ∷ 0 ∷ (label ++ zeros (88 - length label))))

-- ---- reading

unfoldable pub object_of : List ℕ → ℕ
object_of bytes = number_of (take 4 bytes)

unfoldable pub berth_of : List ℕ → ℕ
berth_of bytes = number_of (take 2 (drop 4 bytes))

abbrev pub size_of : List ℕ → ℕ
size_of bytes = get_or bytes 6 0

unfoldable pub label_of : List ℕ → List ℕ
label_of bytes = take (size_of bytes) (drop 8 bytes)

abbrev pub entry_of : List ℕ → Entry
entry_of bytes = record { object = object_of bytes; berth = berth_of bytes; length = size_of bytes }

-- ---- THE LAYOUT

abbrev pub is_set : ℕ → Bool
is_set byte = not (eqb byte 0)

-- the index of the first byte that is not zero, or the length if there is none
abbrev pub first_set : List ℕ → ℕ
first_set = first_where is_set

-- 7, in document 01's order: the length, then byte 7, then the label, then the bytes after it
abbrev pub too_long : List ℕ → Check
too_long bytes = cond (ltb 88 (size_of bytes)) (refuses 7 6) passes

abbrev pub not_spare : List ℕ → Check
not_spare bytes = cond (eqb (get_or bytes 7 0) 0) passes (refuses 7 7)

abbrev pub ill_formed : List ℕ → Check
ill_formed bytes = cond (ltb (first_ill (label_of bytes)) (length (label_of bytes))) (refuses 7 (8 + first_ill (label_of bytes))) passes

abbrev pub after_label : List ℕ → List ℕ
after_label bytes = drop (8 + size_of bytes) bytes

abbrev pub tail_set : List ℕ → Check
tail_set bytes =
    cond (ltb (first_set (after_label bytes)) (length (after_label bytes))) (refuses 7 (8 + size_of bytes + first_set (after_label bytes))) passes

unfoldable pub layout : List ℕ → Check
layout bytes = in_order (too_long bytes ∷ not_spare bytes ∷ ill_formed bytes ∷ tail_set bytes ∷ [])

-- ---- what writing makes

-- bytes that are the record of some object, berth and well-formed label
pub record Written (bytes : List ℕ) : Type 0 where
  pub object : ℕ
  pub berth : ℕ
  pub label : List ℕ
  pub object-fits : object < 2 ^ 32
  pub berth-fits : berth < 2 ^ 16
  pub formed : ill_text label ≡ 0
  pub short : length label ≤ 88
  pub is : bytes ≡ record_of object berth label
