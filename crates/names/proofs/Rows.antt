-- The tables of strings, whose rows are lent. A table that is made of strings of at most three
-- letters gives each string back (`rows_right`). A row's string is the one at the same index of the
-- list of all strings (`row_is`).
use mathlib.Core.Path.{◌≡◌, refl, sym, ◌∙◌, ap}
use mathlib.Core.Bool.{Bool}
use mathlib.Core.List.{List, [], ◌∷◌, map}
use Prim.Native.Nat.{ℕ, suc, ◌≤◌, ◌<◌}
use native.Mathlib.Omega.{arith}
use lib.Dec.{T, leb, leb→le}
use lib.ListN.{length, get_or}
use Rattle.std.proofs.lemmas.List.{get_or-map, length-map}
use Rattle.laws.proofs.Bools.{and-T-left, and-T-right}
use Rattle.laws.proofs.Tables.{every}
use Rattle.names.specs.Inner.{four_bytes, table_of, string_of, StringRows}

-- ---- a table

-- has a string at most three letters?
abbrev pub fits_row : ℕ → List ℕ → Bool
fits_row row string = leb (length string) 3

four_bytes-right : (string : List ℕ) → length string ≤ 3 → string_of (four_bytes string) ≡ string
four_bytes-right [] h = refl
four_bytes-right (a ∷ []) h = refl
four_bytes-right (a ∷ b ∷ []) h = refl
four_bytes-right (a ∷ b ∷ c ∷ []) h = refl
four_bytes-right (a ∷ b ∷ c ∷ d ∷ string) h = absurd (omega (arith, h))

right_from : (strings : List (List ℕ)) (row : ℕ) → T (every fits_row row strings) → map string_of (table_of strings) ≡ strings
right_from [] row t = refl
right_from (string ∷ strings) row t =
    let fits = leb→le _ _ (and-T-left (fits_row row string) (every fits_row (suc row) strings) t) in
    let rest = and-T-right (fits_row row string) (every fits_row (suc row) strings) t in
    rw (four_bytes-right string fits, right_from strings (suc row) rest) refl

pub rows_right : (rows : List (List ℕ)) (strings : List (List ℕ)) → StringRows rows strings → T (every fits_row 0 strings)
    → map string_of rows ≡ strings
rows_right rows strings is few = rw is (right_from strings 0 few)

-- ---- a row

pub row_is : (rows : List (List ℕ)) (row : ℕ) {strings : List (List ℕ)} → map string_of rows ≡ strings → (other : List ℕ)
    → row < length strings → string_of (get_or rows row other) ≡ get_or strings row []
row_is rows row are other inside =
    sym (get_or-map string_of rows row other [] (omega (arith, ap length are, length-map rows string_of)))
    ∙ ap (λ (l : List (List ℕ)). get_or l row []) are
