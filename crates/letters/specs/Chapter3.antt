-- Hangul syllable decomposition in the Unicode Standard's own terms: version 15.0, chapter 3,
-- section 3.12, 'Conjoining Jamo Behavior'. proofs/Chapter3 shows that document 01's terms
-- (specs/Syllables) say the same.
use Rattle.std.specs.Prelude.{Bool, cond, ◌&&◌, List, [], ◌∷◌, ℕ, ◌+◌, ◌-◌, ◌*◌, ◌/◌, ◌%◌, leb, ltb, eqb}

-- the section's constants
abbrev pub s_base : ℕ
s_base = 0xAC00

abbrev pub l_base : ℕ
l_base = 0x1100

abbrev pub v_base : ℕ
v_base = 0x1161

abbrev pub t_base : ℕ
t_base = 0x11A7

abbrev pub l_count : ℕ
l_count = 19

abbrev pub v_count : ℕ
v_count = 21

abbrev pub t_count : ℕ
t_count = 28

abbrev pub n_count : ℕ
n_count = v_count * t_count

abbrev pub s_count : ℕ
s_count = l_count * n_count

-- SIndex, defined for a precomposed syllable s: 0 ≤ SIndex < SCount
abbrev pub s_index : ℕ → ℕ
s_index s = s - s_base

abbrev pub precomposed : ℕ → Bool
precomposed s = leb s_base s && ltb (s_index s) s_count

-- 'Arithmetic Decomposition Mapping': the canonical decomposition mapping of a syllable, an LV into
-- <L, V>, an LVT into <LV, T>. A code point that is no precomposed syllable is itself here, as
-- Decomposition_Mapping's default is
abbrev pub map_lv : ℕ → List ℕ
map_lv s = (l_base + s_index s / n_count) ∷ (v_base + s_index s % n_count / t_count) ∷ []

abbrev pub map_lvt : ℕ → List ℕ
map_lvt s = (s_base + s_index s / t_count * t_count) ∷ (t_base + s_index s % t_count) ∷ []

unfoldable pub mapping : ℕ → List ℕ
mapping s = cond (precomposed s) (cond (eqb (s_index s % t_count) 0) (map_lv s) (map_lvt s)) (s ∷ [])

-- 'Full Canonical Decomposition': LIndex, VIndex and TIndex of a syllable, and its two or three
-- letters
unfoldable pub decomposition : ℕ → List ℕ
decomposition s =
    cond (precomposed s)
    (cond (eqb (s_index s % t_count) 0)
    ((l_base + s_index s / n_count) ∷ (v_base + s_index s % n_count / t_count) ∷ [])
    ((l_base + s_index s / n_count) ∷ (v_base + s_index s % n_count / t_count) ∷ (t_base + s_index s % t_count) ∷ []))
    (s ∷ [])
