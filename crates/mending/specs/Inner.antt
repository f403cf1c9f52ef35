-- What the functions that mending is made of ask and promise: how far they come in a text, what
-- they read there, and what they leave in the buffer. Over any encoding form, and in short names at
-- UTF-8.
--
-- It has: a part of a text (`GoesIn`), one that stands as it is in the mended text (`PassesIn`),
-- and its copy (`Copies`); one turn of the loop that writes (`ReadyIn`, `MovedIn`, and for a
-- character `FitsIn`, `PlacedIn`) and of the one that counts (`CountReadyIn`, `CountMovedIn`,
-- `CountFitsIn`, `CountPlacedIn`); their short names. Then what is UTF-8's own: three bytes that
-- pass (`Three`, the first two of them `Lead`), eight (`Low`, `word_of`); a letter by its bytes
-- (`tail_of`, `Tail`, `OfTail`, `last_of`); a code point that takes three bytes (`Triple`).
use Rattle.std.specs.Prelude.{◌≡◌, cond, List, ◌++◌, ℕ, ◌+◌, ◌-◌, ◌*◌, ◌/◌, ◌%◌, ◌≤◌, ◌<◌, length, drop}
use Rattle.laws.specs.Ranges.{within}
use Rattle.laws.specs.Writing.{Room, Wrote}
use Rattle.encodings.specs.Pieces.{pieces}
use Rattle.encodings.specs.Forms.{Form, ill_in}
use Rattle.encodings.specs.Reading.{good_of}
use Rattle.encodings.specs.declared.answer.Taken.{Taken}
use Rattle.utf8.specs.Table37.{kind_of}
use Rattle.utf8.specs.Utf8.{form8}
use Rattle.utf8.specs.Reading.{taken_from}
use Rattle.mending.specs.Mending.{mended_in}
use Rattle.mending.specs.declared.text.At.{At}
use Rattle.mending.specs.declared.length.Count.{Count}

-- ---- a part of a text

-- the units between two indices are written
pub record Copies (text : List ℕ) (at to : ℕ) (out : List ℕ) (k r : ℕ) (out' : List ℕ) : Type 0 where
  pub wrote : (xs : List ℕ) → drop at text ≡ xs ++ drop to text → Wrote out k xs r out'

module _ (f : Form) where
  -- the mended text from one index on is xs and then the mended text from the other on, with n
  -- ill-formed subparts between the two
  pub record GoesIn (text : List ℕ) (at to : ℕ) (xs : List ℕ) (n : ℕ) : Type 0 where
    pub mends : mended_in f (drop at text) ≡ xs ++ mended_in f (drop to text)
    pub ills : ill_in f (drop at text) ≡ n + ill_in f (drop to text)
    pub on : at ≤ to
    pub inside : to ≤ length text

  -- and xs are the units between them as they stand
  pub record PassesIn (text : List ℕ) (at to : ℕ) : Type 0 where
    pub same : List ℕ
    pub stands : drop at text ≡ same ++ drop to text
    pub goes : GoesIn text at to same 0

  -- ---- one turn

  -- there is more to read, what is left to be written has room, and the ill-formed subparts counted
  -- and left are all
  pub record ReadyIn (text out : List ℕ) (s : At) : Type 0 where
    pub inside : s.read < length text
    pub room : s.written + length (mended_in f (drop s.read text)) ≤ length out
    pub ills : s.ills + ill_in f (drop s.read text) ≡ ill_in f text
    pub limit : length text ≤ 16384

  -- some more was read, and what mending makes of it was written
  pub record MovedIn (text out : List ℕ) (s r : At) (out' : List ℕ) : Type 0 where
    pub xs : List ℕ
    pub n : ℕ
    pub goes : GoesIn text s.read r.read xs n
    pub more : s.read < r.read
    pub wrote : Wrote out s.written xs r.written out'
    pub ills : r.ills ≡ s.ills + n

  -- a character has room, and was written
  pub record FitsIn (out : List ℕ) (s : At) (t : Taken) : Type 0 where
    pub room : Room out s.written (f.units t.code)
    pub code : t.code ≤ 0x10FFFF
    pub size : s.read + t.size ≤ 16384
    pub ill : s.ills + t.ill ≤ 16384

  pub record PlacedIn (out : List ℕ) (s : At) (t : Taken) (r : At) (out' : List ℕ) : Type 0 where
    pub wrote : Wrote out s.written (f.units t.code) r.written out'
    pub read : r.read ≡ s.read + t.size
    pub ills : r.ills ≡ s.ills + t.ill

  -- ---- the same with no buffer

  pub record CountReadyIn (text : List ℕ) (s : Count) : Type 0 where
    pub inside : s.read < length text
    pub fits : s.length + length (mended_in f (drop s.read text)) ≤ 49152
    pub limit : length text ≤ 16384

  pub record CountMovedIn (text : List ℕ) (s r : Count) : Type 0 where
    pub xs : List ℕ
    pub n : ℕ
    pub goes : GoesIn text s.read r.read xs n
    pub more : s.read < r.read
    pub counts : r.length ≡ s.length + length xs

  pub record CountFitsIn (s : Count) (t : Taken) : Type 0 where
    pub size : s.read + t.size ≤ 16384
    pub fits : s.length + length (f.units t.code) ≤ 49152

  pub record CountPlacedIn (s : Count) (t : Taken) (r : Count) : Type 0 where
    pub read : r.read ≡ s.read + t.size
    pub counts : r.length ≡ s.length + length (f.units t.code)

-- ---- at UTF-8

abbrev pub Passes : List ℕ → ℕ → ℕ → Type 0
Passes = PassesIn form8

abbrev pub Ready : List ℕ → List ℕ → At → Type 0
Ready = ReadyIn form8

abbrev pub Moved : List ℕ → List ℕ → At → At → List ℕ → Type 0
Moved = MovedIn form8

abbrev pub Fits : List ℕ → At → Taken → Type 0
Fits = FitsIn form8

abbrev pub Placed : List ℕ → At → Taken → At → List ℕ → Type 0
Placed = PlacedIn form8

abbrev pub CountReady : List ℕ → Count → Type 0
CountReady = CountReadyIn form8

abbrev pub CountMoved : List ℕ → Count → Count → Type 0
CountMoved = CountMovedIn form8

abbrev pub CountFits : Count → Taken → Type 0
CountFits = CountFitsIn form8

abbrev pub CountPlaced : Count → Taken → Count → Type 0
CountPlaced = CountPlacedIn form8

-- ---- bytes that pass

-- a, b and c are a character from A000 to D7FF, and after them no letter of the block 1100–11FF can
-- follow, since d is not its first byte
pub record Three (a b c d : ℕ) : Type 0 where
  pub least : 0xEA ≤ a
  pub most : a ≤ 0xED
  pub second-least : 0x80 ≤ b
  pub second-most : b ≤ 0xBF
  pub second-ed : a ≡ 0xED → b ≤ 0x9F
  pub third-least : 0x80 ≤ c
  pub third-most : c ≤ 0xBF
  pub apart : d ≡ 0xE1 → ⊥

-- a and b are the first two bytes of such a character
pub record Lead (a b : ℕ) : Type 0 where
  pub least : 0xEA ≤ a
  pub most : a ≤ 0xED
  pub second-least : 0x80 ≤ b
  pub second-most : b ≤ 0xBF
  pub second-ed : a ≡ 0xED → b ≤ 0x9F

-- eight bytes as one number, the first one lowest
abbrev pub word_of : ℕ → ℕ → ℕ → ℕ → ℕ → ℕ → ℕ → ℕ → ℕ
word_of a b c d e f g h =
    a + b * 0x100 + c * 0x10000 + d * 0x1000000 + e * 0x100000000 + f * 0x10000000000 + g * 0x1000000000000 + h * 0x100000000000000

-- eight bytes that are ASCII
pub record Low (a b c d e f g h : ℕ) : Type 0 where
  pub first : a < 0x80
  pub second : b < 0x80
  pub third : c < 0x80
  pub fourth : d < 0x80
  pub fifth : e < 0x80
  pub sixth : f < 0x80
  pub seventh : g < 0x80
  pub eighth : h < 0x80

-- ---- a letter by its bytes

-- the second and third byte of a code point from 1000 to 1FFF, as one number; its first byte is E1
abbrev pub tail_of : ℕ → ℕ
tail_of c = (0x80 + c / 64 % 64) * 0x100 + (0x80 + c % 64)

-- what begins at an index is a letter exactly when r is that letter's tail
pub record Tail (text : List ℕ) (at r : ℕ) : Type 0 where
  pub is : (c : ℕ) → 0x1100 ≤ c → c ≤ 0x11FF → r ≡ tail_of c → taken_from (pieces kind_of (drop at text)) ≡ good_of c 3
  pub only : (c : ℕ) → 0x1100 ≤ c → c ≤ 0x11FF → (taken_from (pieces kind_of (drop at text))).code ≡ c → r ≡ tail_of c

-- r is the letter whose tail is `tail`
pub record OfTail (tail : ℕ) (r : Taken) : Type 0 where
  pub is : tail ≡ tail_of r.code
  pub least : 0x1100 ≤ r.code
  pub most : r.code ≤ 0x11FF
  pub whole : r ≡ good_of r.code 3

-- F of a modern final, and 0 of any other code point
unfoldable pub last_of : ℕ → ℕ
last_of c = cond (within 0x11A8 0x11C2 c) (c - 0x11A7) 0

-- a code point that takes three bytes
pub record Triple (c : ℕ) : Type 0 where
  pub least : 0x800 ≤ c
  pub most : c < 0x10000
