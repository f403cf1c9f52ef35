-- UTF-16 as an encoding form: The Unicode Standard 15.0, chapter 3, section 3.9, D91 with table 3-5
-- (the bits of a scalar value in its units). A unit is a number of 16 bits with no order of bytes,
-- so FEFF is a character like any other. What a table says of a sequence, and what is read and
-- written in any form, stands in crate encodings. That this is an encoding form is shown in
-- proofs/Forms (`encodes16`), and that an unpaired surrogate is what D93b calls a maximal subpart,
-- always of one unit, in proofs/Unpaired.
use Rattle.std.specs.Prelude.{Bool, cond, not, false, ◌&&◌, ◌||◌, List, [], ◌∷◌, ℕ, suc, ◌+◌, ◌-◌, ◌*◌, ◌/◌, ◌%◌, ltb}
use Rattle.std.proofs.Math.Option.{some}
use Rattle.laws.specs.Ranges.{within, range}
use Rattle.encodings.specs.Damage.{Encoding}
use Rattle.encodings.specs.Rows.{◌to◌, Table, kind_by}
use Rattle.encodings.specs.Forms.{Form, read_in, ill_in, write_in}

-- high surrogates (D71) and low surrogates (D73)
abbrev pub high : ℕ → Bool
high a = within 0xD800 0xDBFF a

abbrev pub low : ℕ → Bool
low a = within 0xDC00 0xDFFF a

-- D91: a unit that is no surrogate stands alone, and a high surrogate before a low one is a pair
-- (D75). Nothing else is well-formed
abbrev pub table_d91 : Table
table_d91 =
    range 0x0000 0xD7FF (some [])
    ∷ range 0xD800 0xDBFF (some ((0xDC00 to 0xDFFF) ∷ []))
    ∷ range 0xE000 0xFFFF (some [])
    ∷ []

-- TABLE 3-5, from the units to the value. A sequence of any other length is never well-formed
abbrev pub value16 : List ℕ → ℕ
value16 [] = 0
value16 (a ∷ []) = a
value16 (a ∷ b ∷ x) = 0x10000 + (a - 0xD800) * 0x400 + (b - 0xDC00)

-- D91, from the value to the units
unfoldable pub units16 : ℕ → List ℕ
units16 c = cond (ltb c 0x10000) (c ∷ []) ((0xD800 + (c - 0x10000) / 0x400) ∷ (0xDC00 + (c - 0x10000) % 0x400) ∷ [])

-- a unit that is no low surrogate
abbrev pub leads16 : ℕ → Bool
leads16 a = not (low a)

-- THE ENCODING, and the encoding form
abbrev pub utf16 : Encoding ℕ
utf16 = record { kind = kind_by table_d91; code = value16; lead = leads16 }

abbrev pub form16 : Form
form16 = record { encoding = utf16; units = units16 }

-- reading a text of units: its code points, with one FFFD for each unpaired surrogate; and how many
-- of these there are
abbrev pub read_units : List ℕ → List ℕ
read_units = read_in form16

abbrev pub unpaired : List ℕ → ℕ
unpaired = ill_in form16

-- writing a text of code points
abbrev pub write_units : List ℕ → List ℕ
write_units = write_in form16

-- ---- unpaired surrogates, counted with no reading

-- does a text begin with a low surrogate?
abbrev pub starts_low : List ℕ → Bool
starts_low [] = false
starts_low (a ∷ t) = low a

-- is the unit a unpaired, if `before` says whether a high one stands before it, and t follows? A
-- high one is with no low one after it, a low one with no high one before it
abbrev pub is_unpaired : Bool → ℕ → List ℕ → Bool
is_unpaired before a t = (high a && not (starts_low t)) || (low a && not before)

-- how many are, if `before` says whether a high one stands before the text
unfoldable pub unpaired_from : Bool → List ℕ → ℕ
unpaired_from before [] = 0
unpaired_from before (a ∷ t) = cond (is_unpaired before a t) (suc (unpaired_from (high a) t)) (unpaired_from (high a) t)
