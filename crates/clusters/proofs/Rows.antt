-- The numbers of the two tables, and their rows by value. It has: rows one after the other
-- (`threes-at`), so that each number of a table unpacks to its row (`row-unpacked`); both tables one
-- after the other (`both-rows`); a row as the code reads it (`row-packed`, `row_read`),
-- and where a code is alone (`row-alone`); the letters of a row by value (`by_one`, `by_two`,
-- `by_three`), which are those of every number (`letters-by`).
use mathlib.Core.Path.{◌≡◌, refl, sym, ◌∙◌, ap}
use mathlib.Core.Bool.{false}
use mathlib.Core.List.{List, [], ◌∷◌, ◌++◌, append-nil}
use Prim.Native.Nat.{ℕ, zero, suc, ◌+◌, ◌*◌, ◌/◌, ◌%◌, ◌≤◌, ◌<◌}
use native.Mathlib.Omega.{arith}
use lib.ListN.{length, get_or, get_or-append, take, drop, length-append, length-take, length-drop, drop_of_length-le}
use lib.Seq.{length-take-le, get_or-append-add, take_at, drop_at, drop-append-add}
use borrow.Author.Tests.{ne_eqb}
use Rattle.std.specs.Prelude.{Some, None}
use Rattle.laws.specs.Lists.{each, All, none, also}
use Rattle.laws.specs.Writing.{front, Room, Wrote}
use Rattle.laws.proofs.Bools.{test}
use Rattle.laws.proofs.Lists.{each_append}
use Rattle.clusters.specs.Table.{letters_of, has_row, cluster_row}
use Rattle.clusters.specs.Rows.{letter_in, unpacked, table_codes, extended_codes, row_codes, row_code, rows_of, rows_in, Rows, as_row, row_by, letters_by}
use Rattle.clusters.specs.Inner.{Packs, packs, packs-none}
use Rattle.clusters.specs.declared.table.Row.{Row}
use Rattle.clusters.proofs.Codes.{Numbered, codes-length, has-row, row-least}
use Rattle.clusters.proofs.Rule.{letters-least, letters-most, letters-outside, letters-nonzero}

-- ---- rows one after the other, whatever gives them: three numbers each

module _ (row : ℕ → List ℕ) (three : (n : ℕ) → length (row n) ≡ 3) where
  threes-length : (l : List ℕ) → length (each row l) ≡ 3 * length l
  unfolding each
  threes-length [] = refl
  threes-length (n ∷ l) = rw length-append (omega (arith, three n, threes-length l))

  -- row k is that of number k
  threes-at : (l : List ℕ) (k : ℕ) → k < length l → take 3 (drop (3 * k) (each row l)) ≡ row (get_or l k 0)
  unfolding each
  threes-at [] k h = absurd (omega arith)
  threes-at (n ∷ l) zero h = take_at (row n) (each row l) 3 (three n)
  threes-at (n ∷ l) (suc k) h =
      let far : 3 * suc k ≡ length (row n) + 3 * k = omega (arith, three n) in
      ap (λ (i : ℕ). take 3 (drop i (row n ++ each row l))) far ∙ ap (take 3) (drop-append-add (row n) (each row l) (3 * k))
      ∙ threes-at l k (omega arith)

-- 01's rows are such, and so are unpacked numbers
row-length : (c : ℕ) → length (cluster_row c) ≡ 3
row-length c = length-take-le 3 (letters_of c ++ (0 ∷ 0 ∷ [])) (rw length-append (omega (arith, letters-least c)))

unpacked-length : (n : ℕ) → length (unpacked n) ≡ 3
unpacked-length n = refl

module _ (table : List ℕ) (rows : Rows table) where
  pub table-size : length table ≡ 357
  table-size = omega (arith, ap length rows, threes-length unpacked unpacked-length table, threes-length cluster_row row-length row_codes, codes-length)

  -- EACH NUMBER OF THE TABLES UNPACKS TO 01'S ROW OF ITS CODE
  pub row-unpacked : (k : ℕ) → k < 357 → unpacked (get_or table k 0) ≡ cluster_row (row_code k)
  row-unpacked k h =
      sym (threes-at unpacked unpacked-length table k (rw table-size h)) ∙ ap (λ (l : List ℕ). take 3 (drop (3 * k) l)) rows
      ∙ threes-at cluster_row row-length row_codes k (rw codes-length h)

-- ---- both tables, one after the other

rows_joined : (first second : List ℕ) → rows_in first ≡ rows_of table_codes → rows_in second ≡ rows_of extended_codes → Rows (first ++ second)
rows_joined first second is-first is-second =
    each_append unpacked first second ∙ rw (is-first, is-second) (sym (each_append cluster_row table_codes extended_codes))

-- and so where they are copied: the first to the front of a buffer of zeros, and the second after it
module _ (zeros first second : List ℕ) {both part : List ℕ} (is-first : rows_in first ≡ rows_of table_codes) (is-second : rows_in second ≡ rows_of extended_codes)
    (size-first : 256 ≡ length first) (size-second : 101 ≡ length second) (size : length zeros ≡ 357)
    (put_first : both ≡ front first zeros) (put_second : part ≡ front second (take 101 (drop 256 both))) where
  at_front : take 256 both ≡ first
  at_front = rw put_first (take_at first (drop (length first) zeros) 256 (sym size-first))

  after_first : length (drop 256 both) ≡ 101
  after_first = rw (put_first, drop_at first (drop (length first) zeros) 256 (sym size-first)) (simp length-drop (omega (arith, size-first, size)))

  is-part : part ≡ second
  is-part =
      let full : length (take 101 (drop 256 both)) ≤ length second = simp length-take (omega (arith, size-second, after_first)) in
      put_second ∙ ap (λ (l : List ℕ). second ++ l) (drop_of_length-le (take 101 (drop 256 both)) full) ∙ append-nil second

  nothing-after : drop 101 (drop 256 both) ≡ []
  nothing-after = let end : length (drop 256 both) ≤ 101 = omega (arith, after_first) in drop_of_length-le (drop 256 both) end

  put_both : take 256 both ++ (part ++ drop 101 (drop 256 both)) ≡ first ++ second
  put_both = rw (at_front, is-part, nothing-after, append-nil second)

  pub both-rows : (357 ≡ length (take 256 both ++ (part ++ drop 101 (drop 256 both)))) × Rows (take 256 both ++ (part ++ drop 101 (drop 256 both)))
  both-rows = (
    rw put_both (rw length-append (omega (arith, size-first, size-second))),
    ap rows_in put_both ∙ rows_joined first second is-first is-second,
  )

-- ---- the row of a code by value, as the code reads it

-- letters that are not 0 have such a one first in their row
first-nonzero : {x : List ℕ} → All (λ l. l ≡ 0 → ⊥) x → 1 ≤ length x → get_or (take 3 (x ++ (0 ∷ 0 ∷ []))) 0 0 ≡ 0 → ⊥
first-nonzero none h = absurd (omega arith)
first-nonzero (also p rest) h = p

-- so the number in the tables has a first letter
pub row-packed : (table : List ℕ) → Rows table → (c k : ℕ) → Numbered c k → Packs c (Some (get_or table k 0))
row-packed table rows c k is = packs some here
  where
    here : unpacked (get_or table k 0) ≡ cluster_row c
    here = row-unpacked table rows k is.small ∙ ap cluster_row is.code

    some : get_or table k 0 % 512 ≡ 0 → ⊥
    some z =
        first-nonzero (letters-nonzero c (λ e. omega (arith, e, row-least c (has-row c k is)))) (letters-least c)
        (sym (ap (λ (row : List ℕ). get_or row 0 0) here) ∙ rw z)

-- and so each number of the two tables, wherever each of them stands
module _ (table extended : List ℕ) (is-table : rows_in table ≡ rows_of table_codes) (is-extended : rows_in extended ≡ rows_of extended_codes)
    (size : 256 ≡ length table) where
  pub table-packed : (c k : ℕ) → k < 256 → Numbered c k → Packs c (Some (get_or table k 0))
  table-packed c k h is = rw (get_or-append table extended 0 k (omega (arith, size))) at (row-packed (table ++ extended) (rows_joined table extended is-table is-extended) c k is)

  pub extended-packed : (c k : ℕ) {n : ℕ} → n ≡ 256 + k → Numbered c n → Packs c (Some (get_or extended k 0))
  extended-packed c k e is =
      let far : 256 + k ≡ length table + k = omega (arith, size) in
      rw (e, far, get_or-append-add table extended k 0) at (row-packed (table ++ extended) (rows_joined table extended is-table is-extended) c _ is)

-- what has no row is alone
row-outside : (c : ℕ) → has_row c ≡ false → as_row (c ∷ []) ≡ row_by c
unfolding row_by
row-outside c e = rw (letters-outside c e)

-- THE ROW OF A CODE IS READ FROM ITS NUMBER, and a code that has none is alone
module _ {c : ℕ} where
  pub row_read : {n : ℕ} → Packs c (Some n) → {b d : ℕ} → b ≡ letter_in (n / 512 % 512) → d ≡ letter_in (n / 262144 % 512)
      → record { first = 0x10FF + n % 512; second = b; third = d } ≡ row_by c
  unfolding row_by
  row_read (packs {n} some is) second third = rw (second, third) (simp (ne_eqb (n % 512) 0 some) at (ap as_row is))

  pub row-alone : Packs c None → as_row (c ∷ []) ≡ row_by c
  row-alone (packs-none off) = row-outside c off

-- ---- the letters of a row by value

module _ (row : Row) where
  pub by_one : row.second ≡ 0 → letters_by row ≡ row.first ∷ []
  by_one e = simp e

  pub by_two : (row.second ≡ 0 → ⊥) → row.third ≡ 0 → letters_by row ≡ row.first ∷ row.second ∷ []
  by_two n e = simp (ne_eqb row.second 0 n, e)

  pub by_three : (row.second ≡ 0 → ⊥) → (row.third ≡ 0 → ⊥) → letters_by row ≡ row.first ∷ row.second ∷ row.third ∷ []
  by_three n m = simp (ne_eqb row.second 0 n, ne_eqb row.third 0 m)

-- letters that are not 0, one to three of them, are read back from the row that they make
row_back : {x : List ℕ} → All (λ l. l ≡ 0 → ⊥) x → 1 ≤ length x → length x ≤ 3 → letters_by (as_row (take 3 (x ++ (0 ∷ 0 ∷ [])))) ≡ x
row_back none h k = absurd (omega arith)
row_back (also {a = a} p none) h k = refl
row_back (also {a = a} p (also {a = b} q none)) h k = simp (ne_eqb b 0 q)
row_back (also {a = a} p (also {a = b} q (also {a = c} r none))) h k = simp (ne_eqb b 0 q, ne_eqb c 0 r)
row_back (also p (also q (also r (also s t)))) h k = absurd (omega arith)

-- and so the letters of a code are read back from 01's row
row-letters : (c : ℕ) → (c ≡ 0 → ⊥) → letters_by (row_by c) ≡ letters_of c
unfolding row_by
row-letters c n = row_back (letters-nonzero c n) (letters-least c) (letters-most c)

-- THE LETTERS BY VALUE ARE THE LETTERS, of every number
pub letters-by : (c : ℕ) → letters_by (row_by c) ≡ letters_of c
letters-by c =
    test (has_row c) (λ e. row-letters c (λ z. omega (arith, row-least c e))) (λ e. rw (← (row-outside c e)) (sym (letters-outside c e)))

-- so a row that was read has room for its letters, and they are written
module _ (c : ℕ) {row : Row} (read : row ≡ row_by c) where
  letters-read : letters_by row ≡ letters_of c
  letters-read = ap letters_by read ∙ letters-by c

  pub room-read : {out : List ℕ} {at : ℕ} → Room out at (letters_of c) → Room out at (letters_by row)
  room-read {out} {at} h = named (sym letters-read) h
    where
      named : {xs ys : List ℕ} → xs ≡ ys → Room out at xs → Room out at ys
      named e h = rw e at h

  pub wrote-read : {out out' : List ℕ} {at r : ℕ} → Wrote out at (letters_by row) r out' → Wrote out at (letters_of c) r out'
  wrote-read {out} {out'} {at} {r} h = named letters-read h
    where
      named : {xs ys : List ℕ} → xs ≡ ys → Wrote out at xs r out' → Wrote out at ys r out'
      named e h = rw e at h
