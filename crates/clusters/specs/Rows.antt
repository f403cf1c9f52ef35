-- The two tables as the code has them (document 02, #106 and #111): a row as one number; both
-- tables one after the other, 357 numbers; and a row of them by value.
use Rattle.std.specs.Prelude.{◌≡◌, cond, List, [], ◌∷◌, ◌++◌, ℕ, zero, suc, ◌+◌, ◌-◌, ◌*◌, ◌/◌, ◌%◌, eqb, get_or}
use Rattle.laws.specs.Lists.{each}
use Rattle.clusters.specs.Table.{cluster_row}
use Rattle.clusters.specs.declared.table.Row.{Row}

-- ---- a row as one number

-- a letter takes nine bits: 0 for no letter, else its distance from 10FF
abbrev pub letter_in : ℕ → ℕ
letter_in n = cond (eqb n 0) 0 (0x10FF + n)

-- a row takes 27, its first letter the lowest
abbrev pub unpacked : ℕ → List ℕ
unpacked n = letter_in (n % 512) ∷ letter_in (n / 512 % 512) ∷ letter_in (n / 262144 % 512) ∷ []

-- letters, or a row, as one number: the only one of 27 bits that unpacks to that row (`packed-only`
-- in proofs/Packing). No contract cites it; the rule's test tells rows apart by it
abbrev pub packed : List ℕ → ℕ
packed [] = 0
packed (l ∷ ls) = (l - 0x10FF) + 512 * packed ls

-- ---- the tables

-- n numbers from lo on
unfoldable pub numbers_from : ℕ → ℕ → List ℕ
numbers_from lo zero = []
numbers_from lo (suc n) = lo ∷ numbers_from (suc lo) n

-- the codes of 01's table, 1100–11FF, and of the other, A960–A97C, D7B0–D7C6 and D7CB–D7FB
abbrev pub table_codes : List ℕ
table_codes = numbers_from 0x1100 256

abbrev pub extended_codes : List ℕ
extended_codes = numbers_from 0xA960 29 ++ (numbers_from 0xD7B0 23 ++ numbers_from 0xD7CB 49)

-- and so the code of each row, by the row's number
abbrev pub row_codes : List ℕ
row_codes = table_codes ++ extended_codes

abbrev pub row_code : ℕ → ℕ
row_code k = get_or row_codes k 0

-- the rows of codes, and the rows that numbers are unpacked to, one after the other
abbrev pub rows_of : List ℕ → List ℕ
rows_of codes = each cluster_row codes

abbrev pub rows_in : List ℕ → List ℕ
rows_in numbers = each unpacked numbers

-- both tables: unpacked, they are 01's rows
abbrev pub Rows : List ℕ → Type 0
Rows table = rows_in table ≡ rows_of row_codes

-- ---- a row by value

-- three numbers by value, and so the row of a code
abbrev pub as_row : List ℕ → Row
as_row row = record { first = get_or row 0 0; second = get_or row 1 0; third = get_or row 2 0 }

unfoldable pub row_by : ℕ → Row
row_by c = as_row (cluster_row c)

-- its letters: the first, and those of the others that are not 0
abbrev pub unless_zero : ℕ → List ℕ → List ℕ
unless_zero n rest = cond (eqb n 0) [] (n ∷ rest)

abbrev pub letters_by : Row → List ℕ
letters_by row = row.first ∷ unless_zero row.second (unless_zero row.third [])
