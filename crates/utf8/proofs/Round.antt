-- UTF-8 is an encoding form: of a code point that is not bad, the bytes are well-formed and have
-- its value; and a well-formed sequence is the bytes of its value. So what is written reads back,
-- and what is read is written back (crate encodings, proofs/Texts).
--
-- In order: the table's first column (`Row`, `row_of`); from a code point to its bytes
-- (`bytes-full`, `bytes-value`); from well-formed bytes to the code point (`full-bytes`); and the
-- form (`encodes8`).
use mathlib.Core.Path.{◌≡◌, ◌∙◌}
use mathlib.Core.Bool.{false}
use mathlib.Core.Logic.{⊎_elim}
use mathlib.Core.List.{List}
use Prim.Native.Nat.{ℕ, ◌+◌, ◌-◌, ◌*◌, ◌/◌, ◌%◌, ◌≤◌, ◌<◌}
use native.Mathlib.Omega.{arith}
use lib.Dec.{ltb}
use borrow.Author.Tests.{ltb-true, ltb-false}
use Rattle.laws.proofs.Bools.{test}
use Rattle.answers.specs.Checks.{bad}
use Rattle.answers.proofs.Checks.{good-most, good-gap}
use Rattle.encodings.specs.Pieces.{full}
use Rattle.encodings.specs.Forms.{Encodes}
use Rattle.encodings.proofs.Rows.{row-between, ends, goes, full_by}
use Rattle.utf8.specs.Table37.{table37, kind_of}
use Rattle.utf8.specs.Utf8.{value_of, bytes_of, form8}
use Rattle.utf8.proofs.Rows.{coherent8, leads8}
use Rattle.utf8.proofs.Forms.{full-good, Formed, of_one, of_two, of_three, of_four, full-formed}
use Rattle.utf8.proofs.Writing.{bytes_one, bytes-two, bytes-three, bytes-four, Width, one, two, three, four, width}

-- ---- the first column of table 3-7: the code points by rows, each named by its first byte

pub data Row (c : ℕ) : Type 0 where
  row-00 : c < 0x80 → Row c
  row-C2 : 0x80 ≤ c → c < 0x800 → Row c
  row-E0 : 0x800 ≤ c → c < 0x1000 → Row c
  row-E1 : 0x1000 ≤ c → c < 0xD000 → Row c
  row-ED : 0xD000 ≤ c → c < 0xD800 → Row c
  row-EE : 0xE000 ≤ c → c < 0x10000 → Row c
  row-F0 : 0x10000 ≤ c → c < 0x40000 → Row c
  row-F1 : 0x40000 ≤ c → c < 0x100000 → Row c
  row-F4 : 0x100000 ≤ c → c ≤ 0x10FFFF → Row c

pub row_of : (c : ℕ) → bad c ≡ false → Row c
row_of c g = less 0x80 (λ h. row-00 h) (λ h₁.
    less 0x800 (λ h. row-C2 h₁ h) (λ h₂.
    less 0x1000 (λ h. row-E0 h₂ h) (λ h₃.
    less 0xD000 (λ h. row-E1 h₃ h) (λ h₄.
    less 0xD800 (λ h. row-ED h₄ h) (λ h₅.
    less 0x10000 (λ h. row-EE (⊎_elim (λ k. absurd (omega arith)) (λ k. omega arith) (good-gap c g)) h) (λ h₆.
    less 0x40000 (λ h. row-F0 h₆ h) (λ h₇.
    less 0x100000 (λ h. row-F1 h₇ h) (λ h₈. row-F4 h₈ (good-most c g)))))))))
  where
    less : (n : ℕ) → (c < n → Row c) → (n ≤ c → Row c) → Row c
    less n yea nay = test (ltb c n) (λ e. yea (ltb-true c n e)) (λ e. nay (ltb-false c n e))

-- ---- from a code point to its bytes

-- its bytes are well-formed
pub bytes-full : (c : ℕ) → bad c ≡ false → kind_of (bytes_of c) ≡ full
bytes-full c g = by (row_of c g)
  where
    by : Row c → kind_of (bytes_of c) ≡ full
    by (row-00 h) = rw (bytes_one c h) (full_by table37 c (row-between table37 0x00 0x7F tt (omega arith) (omega arith)) ends)
    by (row-C2 h k) =
        rw (bytes-two c h k)
        (full_by table37 (0xC0 + c / 64) (row-between table37 0xC2 0xDF tt (omega arith) (omega arith)) (goes (omega arith) (omega arith) ends))
    by (row-E0 h k) =
        rw (bytes-three c (omega arith) (omega arith))
        (full_by table37 (0xE0 + c / 4096) (row-between table37 0xE0 0xE0 tt (omega arith) (omega arith))
        (goes (omega arith) (omega arith) (goes (omega arith) (omega arith) ends)))
    by (row-E1 h k) =
        rw (bytes-three c (omega arith) (omega arith))
        (full_by table37 (0xE0 + c / 4096) (row-between table37 0xE1 0xEC tt (omega arith) (omega arith))
        (goes (omega arith) (omega arith) (goes (omega arith) (omega arith) ends)))
    by (row-ED h k) =
        rw (bytes-three c (omega arith) (omega arith))
        (full_by table37 (0xE0 + c / 4096) (row-between table37 0xED 0xED tt (omega arith) (omega arith))
        (goes (omega arith) (omega arith) (goes (omega arith) (omega arith) ends)))
    by (row-EE h k) =
        rw (bytes-three c (omega arith) k)
        (full_by table37 (0xE0 + c / 4096) (row-between table37 0xEE 0xEF tt (omega arith) (omega arith))
        (goes (omega arith) (omega arith) (goes (omega arith) (omega arith) ends)))
    by (row-F0 h k) =
        rw (bytes-four c h)
        (full_by table37 (0xF0 + c / 262144) (row-between table37 0xF0 0xF0 tt (omega arith) (omega arith))
        (goes (omega arith) (omega arith) (goes (omega arith) (omega arith) (goes (omega arith) (omega arith) ends))))
    by (row-F1 h k) =
        rw (bytes-four c (omega arith))
        (full_by table37 (0xF0 + c / 262144) (row-between table37 0xF1 0xF3 tt (omega arith) (omega arith))
        (goes (omega arith) (omega arith) (goes (omega arith) (omega arith) (goes (omega arith) (omega arith) ends))))
    by (row-F4 h k) =
        rw (bytes-four c (omega arith))
        (full_by table37 (0xF0 + c / 262144) (row-between table37 0xF4 0xF4 tt (omega arith) (omega arith))
        (goes (omega arith) (omega arith) (goes (omega arith) (omega arith) (goes (omega arith) (omega arith) ends))))

-- their value is the code point
pub bytes-value : (c : ℕ) → value_of (bytes_of c) ≡ c
bytes-value c = by (width c)
  where
    by : Width c → value_of (bytes_of c) ≡ c
    by (one h) = rw (bytes_one c h)
    by (two h k) = rw (bytes-two c h k) (omega arith)
    by (three h k) = rw (bytes-three c h k) (omega arith)
    by (four h) =
        let x : c / 64 / 64 ≡ c / 4096 = omega arith in
        let y : c / 4096 / 64 ≡ c / 262144 = omega arith in
        rw (bytes-four c h) (omega arith)

-- ---- from well-formed bytes to the code point

formed-bytes : {u : List ℕ} → Formed u → bytes_of (value_of u) ≡ u
formed-bytes (of_one a m) = bytes_one a (omega arith)
formed-bytes (of_two a b l m p q) =
    let v = (a - 0xC0) * 64 + (b - 0x80) in
    let first : 0xC0 + v / 64 ≡ a = omega arith in
    let second : 0x80 + v % 64 ≡ b = omega arith in
    bytes-two v (omega arith) (omega arith) ∙ cc
formed-bytes (of_three a b c l m p q r s least g) =
    let v = (a - 0xE0) * 4096 + (b - 0x80) * 64 + (c - 0x80) in
    let first : 0xE0 + v / 4096 ≡ a = omega arith in
    let second : 0x80 + v / 64 % 64 ≡ b = omega arith in
    let third : 0x80 + v % 64 ≡ c = omega arith in
    bytes-three v least (omega arith) ∙ cc
formed-bytes (of_four a b c d l m p q r s t u least most) =
    let v = (a - 0xF0) * 262144 + (b - 0x80) * 4096 + (c - 0x80) * 64 + (d - 0x80) in
    let first : 0xF0 + v / 262144 ≡ a = omega arith in
    let second : 0x80 + v / 4096 % 64 ≡ b = omega arith in
    let third : 0x80 + v / 64 % 64 ≡ c = omega arith in
    let fourth : 0x80 + v % 64 ≡ d = omega arith in
    bytes-four v least ∙ cc

-- a well-formed sequence is the bytes of its value
pub full-bytes : (u : List ℕ) → kind_of u ≡ full → bytes_of (value_of u) ≡ u
full-bytes u e = formed-bytes (full-formed u e)

-- UTF-8 IS AN ENCODING FORM
pub encodes8 : Encodes form8
encodes8 = record {
  coherent = coherent8;
  leads = leads8;
  full-good = full-good;
  full-units = full-bytes;
  units-full = bytes-full;
  units-code = λ c g. bytes-value c;
}
