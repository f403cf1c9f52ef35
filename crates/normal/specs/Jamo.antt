-- A small character database: the conjoining jamo and the syllables as The Unicode Standard 15.0
-- gives them in chapter 3, section 3.12, in its own terms, and the two tone marks with their
-- combining class. It is not the UCD, for no other character has a mapping or a class here; it has
-- what the UCD says of document 01's repertoire (`jamo-ucd` of proofs/Repertoire).
--
-- In order: the combining class; the ranges of L, V, T and LV; the primary composites; the database
-- `jamo`.
use Rattle.std.specs.Prelude.{Bool, false, cond, ◌&&◌, ℕ, ◌+◌, ◌-◌, ◌*◌, ◌%◌, leb, ltb, eqb}
use Rattle.std.proofs.Math.Option.{Option, none, some}
use Rattle.laws.specs.Ranges.{within}
use Rattle.letters.specs.Chapter3.{s_base, l_base, v_base, t_base, l_count, v_count, t_count, n_count, s_index, precomposed, mapping}
use Rattle.normal.specs.Forms.{Database}

-- Canonical_Combining_Class: the tone marks 302E and 302F have 224, all else 0
unfoldable pub tone_class : ℕ → ℕ
tone_class c = cond (within 0x302E 0x302F c) 224 0

-- ---- 'Hangul Syllable Composition'

-- L, V and T by their indices: 0 ≤ LIndex < LCount, 0 ≤ VIndex < VCount, and 0 < TIndex < TCount,
-- since TBase itself is no T
abbrev pub l_index : ℕ → ℕ
l_index l = l - l_base

abbrev pub v_index : ℕ → ℕ
v_index v = v - v_base

abbrev pub t_index : ℕ → ℕ
t_index t = t - t_base

unfoldable pub is_l : ℕ → Bool
is_l l = leb l_base l && ltb (l_index l) l_count

unfoldable pub is_v : ℕ → Bool
is_v v = leb v_base v && ltb (v_index v) v_count

unfoldable pub is_t : ℕ → Bool
is_t t = ltb 0 (t_index t) && ltb (t_index t) t_count

-- LV: a precomposed syllable with no T
unfoldable pub is_lv : ℕ → Bool
is_lv s = precomposed s && eqb (s_index s % t_count) 0

-- 'Arithmetic Primary Composite Mapping': <L, V> to the syllable of LVIndex, <LV, T> to the
-- syllable TIndex after the LV; no other two compose
abbrev pub lv_index : ℕ → ℕ → ℕ
lv_index l v = l_index l * n_count + v_index v * t_count

unfoldable pub composite : ℕ → ℕ → Option ℕ
composite l c = cond (is_l l && is_v c) (some (s_base + lv_index l c)) (cond (is_lv l && is_t c) (some (l + t_index c)) none)

-- ---- the database: two applications take an LVT apart; there are no exclusions

abbrev pub jamo : Database
jamo = record { ccc = tone_class; mapping = mapping; depth = 2; excluded = λ c. false; composite = composite }
