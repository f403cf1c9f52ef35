-- UTF-8 as an encoding form: The Unicode Standard 15.0, chapter 3, section 3.9, D92 with table 3-6
-- (the bits of a scalar value in its bytes). Which sequences are well-formed stands in
-- specs/Table37; what is read and written in any form, in crate encodings. That this is an encoding
-- form is shown in proofs/Round (`encodes8`).
use Rattle.std.specs.Prelude.{Bool, cond, not, List, [], ◌∷◌, ℕ, ◌+◌, ◌-◌, ◌*◌, ◌/◌, ◌%◌, ltb}
use Rattle.laws.specs.Ranges.{within}
use Rattle.encodings.specs.Damage.{Encoding}
use Rattle.encodings.specs.Forms.{Form, read_in, ill_in, first_ill_in, code_units, write_in}
use Rattle.utf8.specs.Table37.{kind_of}

-- TABLE 3-6, from the bytes to the value: the bits of each byte that are not its marker, six from
-- every byte but the first. A sequence of any other length is never well-formed
abbrev pub value_of : List ℕ → ℕ
value_of [] = 0
value_of (a ∷ []) = a
value_of (a ∷ b ∷ []) = (a - 0xC0) * 64 + (b - 0x80)
value_of (a ∷ b ∷ c ∷ []) = (a - 0xE0) * 4096 + (b - 0x80) * 64 + (c - 0x80)
value_of (a ∷ b ∷ c ∷ d ∷ x) = (a - 0xF0) * 262144 + (b - 0x80) * 4096 + (c - 0x80) * 64 + (d - 0x80)

-- D92, from the value to the bytes
unfoldable pub bytes_of : ℕ → List ℕ
bytes_of c =
    cond (ltb c 0x80) (c ∷ [])
    (cond (ltb c 0x800) ((0xC0 + c / 64) ∷ (0x80 + c % 64) ∷ [])
    (cond (ltb c 0x10000) ((0xE0 + c / 4096) ∷ (0x80 + c / 64 % 64) ∷ (0x80 + c % 64) ∷ [])
    ((0xF0 + c / 262144) ∷ (0x80 + c / 4096 % 64) ∷ (0x80 + c / 64 % 64) ∷ (0x80 + c % 64) ∷ [])))

-- a byte that is no continuation byte
abbrev pub leads : ℕ → Bool
leads b = not (within 0x80 0xBF b)

-- THE ENCODING, and the encoding form
abbrev pub utf8 : Encoding ℕ
utf8 = record { kind = kind_of; code = value_of; lead = leads }

abbrev pub form8 : Form
form8 = record { encoding = utf8; units = bytes_of }

-- reading a text of bytes: its code points, with one FFFD for each ill-formed maximal subpart; how
-- many of these there are; and the index of the first one, or the length if there is none
abbrev pub read_text : List ℕ → List ℕ
read_text = read_in form8

abbrev pub ill_text : List ℕ → ℕ
ill_text = ill_in form8

abbrev pub first_ill : List ℕ → ℕ
first_ill = first_ill_in form8

-- writing a text of code points
abbrev pub write_text : List ℕ → List ℕ
write_text = write_in form8

-- the bytes of one code point; a number over 10FFFF has none
abbrev pub code_bytes : ℕ → List ℕ
code_bytes = code_units form8
