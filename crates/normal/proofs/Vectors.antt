-- Worked examples of the two forms, each a closed fact that antt computes: they try the
-- definitions, and prove nothing about any other text.
--
-- In order: texts over the database `jamo`, from section 3.12 and document 01 (`HangulForms`); a
-- database of a few Latin rows of the UCD; texts over it, mostly from the figures of Unicode
-- Standard Annex #15 (`LatinForms`), because over `jamo` nothing is ever reordered.
use mathlib.Core.Path.{◌≡◌, refl}
use mathlib.Core.Bool.{Bool, true, false, cond, ◌&&◌, ◌||◌}
use mathlib.Core.Option.{Option, none, some}
use mathlib.Core.List.{List, [], ◌∷◌}
use Prim.Native.Nat.{ℕ}
use lib.Dec.{eqb}
use Rattle.laws.specs.Lists.{each}
use Rattle.laws.specs.Ranges.{within}
use Rattle.letters.specs.Chapter3.{mapping}
use Rattle.normal.specs.Forms.{Database, starter, blocked, nfd, nfc}
use Rattle.normal.specs.Jamo.{tone_class, is_l, is_v, is_t, is_lv, composite, jamo}

-- a text, its NFD and its NFC
abbrev pub HasForms : Database → List ℕ → List ℕ → List ℕ → Type 0
HasForms db text d c = (nfd db text ≡ d) × (nfc db text ≡ c)

-- ---- over the database of section 3.12

pub record HangulForms : Type 0 where
  -- the tone marks are no starters, the letters are
  pub tone-no-starter : starter jamo 0x302E ≡ false
  pub letter-starter : starter jamo 0x1100 ≡ true
  -- the section's own example, whole and with its LV alone composed
  pub d4db : HasForms jamo (0xD4DB ∷ []) (0x1111 ∷ 0x1171 ∷ 0x11B6 ∷ []) (0xD4DB ∷ [])
  pub d4cc-final : HasForms jamo (0xD4CC ∷ 0x11B6 ∷ []) (0x1111 ∷ 0x1171 ∷ 0x11B6 ∷ []) (0xD4DB ∷ [])
  -- document 01's case 2: AC1D is the LV AC1C and a final
  pub ac1d : HasForms jamo (0xAC1D ∷ []) (0x1100 ∷ 0x1162 ∷ 0x11A8 ∷ []) (0xAC1D ∷ [])
  -- case 3: the last syllable
  pub d7a3 : HasForms jamo (0xD7A3 ∷ []) (0x1112 ∷ 0x1175 ∷ 0x11C2 ∷ []) (0xD7A3 ∷ [])
  -- case 4: 11A7, TBase, is no T
  pub tbase-stays : HasForms jamo (0x1100 ∷ 0x1161 ∷ 0x11A7 ∷ []) (0x1100 ∷ 0x1161 ∷ 0x11A7 ∷ []) (0xAC00 ∷ 0x11A7 ∷ [])
  -- case 5: nor is an old final
  pub old-final-stays : HasForms jamo (0x1100 ∷ 0x1161 ∷ 0x11C3 ∷ []) (0x1100 ∷ 0x1161 ∷ 0x11C3 ∷ []) (0xAC00 ∷ 0x11C3 ∷ [])
  -- case 6: nothing composes with an LVT
  pub second-final-stays : HasForms jamo (0xAC01 ∷ 0x11A8 ∷ []) (0x1100 ∷ 0x1161 ∷ 0x11A8 ∷ 0x11A8 ∷ []) (0xAC01 ∷ 0x11A8 ∷ [])
  -- case 7: of two initials the last composes
  pub last-initial : HasForms jamo (0x1100 ∷ 0x1100 ∷ 0x1161 ∷ []) (0x1100 ∷ 0x1100 ∷ 0x1161 ∷ []) (0x1100 ∷ 0xAC00 ∷ [])
  -- three letters, and two after another character
  pub letters : HasForms jamo (0x1100 ∷ 0x1161 ∷ 0x11A8 ∷ []) (0x1100 ∷ 0x1161 ∷ 0x11A8 ∷ []) (0xAC01 ∷ [])
  pub after-ascii : HasForms jamo (0x0041 ∷ 0x1100 ∷ 0x1161 ∷ []) (0x0041 ∷ 0x1100 ∷ 0x1161 ∷ []) (0x0041 ∷ 0xAC00 ∷ [])
  -- an LV and a final
  pub lv-final : HasForms jamo (0xAC00 ∷ 0x11A8 ∷ []) (0x1100 ∷ 0x1161 ∷ 0x11A8 ∷ []) (0xAC01 ∷ [])
  -- a tone mark between two letters blocks the second from the first
  pub tone-blocks-peak : HasForms jamo (0x1100 ∷ 0x302E ∷ 0x1161 ∷ []) (0x1100 ∷ 0x302E ∷ 0x1161 ∷ []) (0x1100 ∷ 0x302E ∷ 0x1161 ∷ [])
  pub tone-blocks-final : HasForms jamo (0xAC00 ∷ 0x302F ∷ 0x11A8 ∷ []) (0x1100 ∷ 0x1161 ∷ 0x302F ∷ 0x11A8 ∷ []) (0xAC00 ∷ 0x302F ∷ 0x11A8 ∷ [])
  -- marks of one class keep their order, whichever it is
  pub tones-kept : HasForms jamo (0xAC00 ∷ 0x302E ∷ 0x302F ∷ []) (0x1100 ∷ 0x1161 ∷ 0x302E ∷ 0x302F ∷ []) (0xAC00 ∷ 0x302E ∷ 0x302F ∷ [])
  pub tones-kept-too : HasForms jamo (0xAC00 ∷ 0x302F ∷ 0x302E ∷ []) (0x1100 ∷ 0x1161 ∷ 0x302F ∷ 0x302E ∷ []) (0xAC00 ∷ 0x302F ∷ 0x302E ∷ [])
  -- and none changes places with a starter
  pub tone-in-front : HasForms jamo (0x302E ∷ 0x1112 ∷ 0x1175 ∷ []) (0x302E ∷ 0x1112 ∷ 0x1175 ∷ []) (0x302E ∷ 0xD788 ∷ [])

pub hangul-forms : HangulForms
unfolding each mapping within tone_class is_l is_v is_t is_lv composite blocked
hangul-forms = record {
  tone-no-starter = refl;
  letter-starter = refl;
  d4db = (refl, refl);
  d4cc-final = (refl, refl);
  ac1d = (refl, refl);
  d7a3 = (refl, refl);
  tbase-stays = (refl, refl);
  old-final-stays = (refl, refl);
  second-final-stays = (refl, refl);
  last-initial = (refl, refl);
  letters = (refl, refl);
  after-ascii = (refl, refl);
  lv-final = (refl, refl);
  tone-blocks-peak = (refl, refl);
  tone-blocks-final = (refl, refl);
  tones-kept = (refl, refl);
  tones-kept-too = (refl, refl);
  tone-in-front = (refl, refl);
}

-- ---- a few rows of UnicodeData.txt: a character and its class, a character and its mapping

abbrev class_rows : List (ℕ × ℕ)
class_rows = (0x0301, 230) ∷ (0x0302, 230) ∷ (0x0305, 230) ∷ (0x0307, 230) ∷ (0x030A, 230) ∷ (0x0323, 220) ∷ []

abbrev mapping_rows : List (ℕ × List ℕ)
mapping_rows =
    (0x00C5, 0x0041 ∷ 0x030A ∷ [])
    ∷ (0x00E1, 0x0061 ∷ 0x0301 ∷ [])
    ∷ (0x00F4, 0x006F ∷ 0x0302 ∷ [])
    ∷ (0x1E0B, 0x0064 ∷ 0x0307 ∷ [])
    ∷ (0x1E0D, 0x0064 ∷ 0x0323 ∷ [])
    ∷ (0x1E61, 0x0073 ∷ 0x0307 ∷ [])
    ∷ (0x1E63, 0x0073 ∷ 0x0323 ∷ [])
    ∷ (0x1E69, 0x1E63 ∷ 0x0307 ∷ [])
    ∷ (0x1E9B, 0x017F ∷ 0x0307 ∷ [])
    ∷ (0x2126, 0x03A9 ∷ [])
    ∷ (0x212B, 0x00C5 ∷ [])
    ∷ []

abbrev class_in : List (ℕ × ℕ) → ℕ → ℕ
class_in [] c = 0
class_in (r ∷ rows) c = cond (eqb r.0 c) r.1 (class_in rows c)

abbrev mapping_in : List (ℕ × List ℕ) → ℕ → List ℕ
mapping_in [] c = c ∷ []
mapping_in (r ∷ rows) c = cond (eqb r.0 c) r.1 (mapping_in rows c)

abbrev is_pair : ℕ → ℕ → List ℕ → Bool
is_pair l c [] = false
is_pair l c (a ∷ []) = false
is_pair l c (a ∷ b ∷ []) = eqb a l && eqb b c
is_pair l c (a ∷ b ∷ d ∷ x) = false

abbrev composite_in : List (ℕ × List ℕ) → ℕ → ℕ → Option ℕ
composite_in [] l c = none
composite_in (r ∷ rows) l c = cond (is_pair l c r.1) (some r.0) (composite_in rows l c)

-- the two that are mapped to one character each are excluded
abbrev pub latin : Database
latin = record {
  ccc = class_in class_rows;
  mapping = mapping_in mapping_rows;
  depth = 2;
  excluded = λ c. eqb c 0x2126 || eqb c 0x212B;
  composite = composite_in mapping_rows;
}

-- ---- over these rows

pub record LatinForms : Type 0 where
  -- figure 3: mapped to one character
  pub angstrom-sign : HasForms latin (0x212B ∷ []) (0x0041 ∷ 0x030A ∷ []) (0x00C5 ∷ [])
  pub ohm-sign : HasForms latin (0x2126 ∷ []) (0x03A9 ∷ []) (0x03A9 ∷ [])
  -- figure 4: a letter and a mark
  pub a-ring : HasForms latin (0x00C5 ∷ []) (0x0041 ∷ 0x030A ∷ []) (0x00C5 ∷ [])
  pub o-circumflex : HasForms latin (0x00F4 ∷ []) (0x006F ∷ 0x0302 ∷ []) (0x00F4 ∷ [])
  -- figure 5: several marks
  pub s-two-dots : HasForms latin (0x1E69 ∷ []) (0x0073 ∷ 0x0323 ∷ 0x0307 ∷ []) (0x1E69 ∷ [])
  pub d-two-dots : HasForms latin (0x1E0B ∷ 0x0323 ∷ []) (0x0064 ∷ 0x0323 ∷ 0x0307 ∷ []) (0x1E0D ∷ 0x0307 ∷ [])
  pub q-two-dots : HasForms latin (0x0071 ∷ 0x0307 ∷ 0x0323 ∷ []) (0x0071 ∷ 0x0323 ∷ 0x0307 ∷ []) (0x0071 ∷ 0x0323 ∷ 0x0307 ∷ [])
  -- figure 6: 0323, of a lower class, stands between and does not block
  pub long-s-two-dots : HasForms latin (0x1E9B ∷ 0x0323 ∷ []) (0x017F ∷ 0x0323 ∷ 0x0307 ∷ []) (0x1E9B ∷ 0x0323 ∷ [])
  -- D115 at equal classes: 0305 blocks
  pub overline-blocks : HasForms latin (0x0061 ∷ 0x0305 ∷ 0x0301 ∷ []) (0x0061 ∷ 0x0305 ∷ 0x0301 ∷ []) (0x0061 ∷ 0x0305 ∷ 0x0301 ∷ [])

pub latin-forms : LatinForms
unfolding each blocked
latin-forms = record {
  angstrom-sign = (refl, refl);
  ohm-sign = (refl, refl);
  a-ring = (refl, refl);
  o-circumflex = (refl, refl);
  s-two-dots = (refl, refl);
  d-two-dots = (refl, refl);
  q-two-dots = (refl, refl);
  long-s-two-dots = (refl, refl);
  overline-blocks = (refl, refl);
}
