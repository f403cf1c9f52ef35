-- The names of syllables: document 01, 'Names'.
use Rattle.std.specs.Prelude.{cond, List, [], ◌∷◌, ◌++◌, map, ℕ, zero, suc}
use Rattle.std.proofs.Math.Option.{Option, none, some}
use Rattle.laws.specs.Strings.{ascii, same, picked}
use Rattle.letters.specs.Syllables.{initial_of, peak_of, final_of}

-- ---- document 01, 'Names': the three lists

unfoldable pub initials : List (List ℕ)
initials =
    map ascii (
    "G" ∷ "GG" ∷ "N" ∷ "D" ∷ "DD" ∷ "R" ∷ "M" ∷ "B" ∷ "BB" ∷ "S" ∷ "SS" ∷ "" ∷ "J" ∷ "JJ" ∷ "C" ∷ "K" ∷ "T" ∷ "P" ∷ "H" ∷ []
    )

unfoldable pub peaks : List (List ℕ)
peaks =
    map ascii (
    "A" ∷ "AE" ∷ "YA" ∷ "YAE" ∷ "EO" ∷ "E" ∷ "YEO" ∷ "YE" ∷ "O" ∷ "WA" ∷ "WAE" ∷ "OE" ∷ "YO" ∷ "U" ∷ "WEO" ∷ "WE" ∷ "WI" ∷ "YU" ∷ "EU" ∷ "YI" ∷ "I" ∷ []
    )

unfoldable pub finals : List (List ℕ)
finals =
    map ascii (
    "" ∷ "G" ∷ "GG" ∷ "GS" ∷ "N" ∷ "NJ" ∷ "NH" ∷ "D" ∷ "L" ∷ "LG" ∷ "LM" ∷ "LB" ∷ "LS" ∷ "LT" ∷ "LP" ∷ "LH" ∷ "M" ∷ "B" ∷ "BS" ∷ "S" ∷ "SS" ∷ "NG" ∷ "J"
    ∷ "C" ∷ "K" ∷ "T" ∷ "P" ∷ "H" ∷ []
    )

unfoldable pub prefix : List ℕ
prefix = ascii "HANGUL SYLLABLE "

-- the name of I, P and F, and of a syllable
unfoldable pub name_by : ℕ → ℕ → ℕ → List ℕ
name_by i p f = prefix ++ picked initials peaks finals i p f

abbrev pub name_of : ℕ → List ℕ
name_of s = name_by (initial_of s) (peak_of s) (final_of s)

-- ---- reading a name

-- the first of n syllables from s on that has the name
unfoldable pub named_from : ℕ → ℕ → List ℕ → Option ℕ
named_from zero s name = none
named_from (suc n) s name = cond (same (name_of s) name) (some s) (named_from n (suc s) name)

-- the syllable that has the name
unfoldable pub named : List ℕ → Option ℕ
named name = named_from 11172 0xAC00 name
