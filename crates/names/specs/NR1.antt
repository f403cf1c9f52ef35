-- The Unicode Standard's own rule for the names of Hangul syllables: version 15.0, chapter 4,
-- section 4.8, rule NR1, with the property Jamo_Short_Name of the Unicode Character Database, line
-- by line as Jamo.txt has it. Document 01's words for it stand in specs/Names; proofs/NR1 shows
-- that every syllable gets the same name by both.
use Rattle.std.specs.Prelude.{cond, List, [], ◌∷◌, ◌++◌, ℕ, eqb}
use Prim.Native.String.{String}
use Rattle.laws.specs.Lists.{each}
use Rattle.laws.specs.Strings.{ascii}
use Rattle.letters.specs.Chapter3.{decomposition}

-- a line of Jamo.txt: a code point and its short name
pub data JamoLine : Type 0 where
  short : ℕ → String → JamoLine

unfoldable pub jamo_txt : List JamoLine
jamo_txt =
    short 0x1100 "G" ∷
    short 0x1101 "GG" ∷
    short 0x1102 "N" ∷
    short 0x1103 "D" ∷
    short 0x1104 "DD" ∷
    short 0x1105 "R" ∷
    short 0x1106 "M" ∷
    short 0x1107 "B" ∷
    short 0x1108 "BB" ∷
    short 0x1109 "S" ∷
    short 0x110A "SS" ∷
    short 0x110B "" ∷
    short 0x110C "J" ∷
    short 0x110D "JJ" ∷
    short 0x110E "C" ∷
    short 0x110F "K" ∷
    short 0x1110 "T" ∷
    short 0x1111 "P" ∷
    short 0x1112 "H" ∷
    short 0x1161 "A" ∷
    short 0x1162 "AE" ∷
    short 0x1163 "YA" ∷
    short 0x1164 "YAE" ∷
    short 0x1165 "EO" ∷
    short 0x1166 "E" ∷
    short 0x1167 "YEO" ∷
    short 0x1168 "YE" ∷
    short 0x1169 "O" ∷
    short 0x116A "WA" ∷
    short 0x116B "WAE" ∷
    short 0x116C "OE" ∷
    short 0x116D "YO" ∷
    short 0x116E "U" ∷
    short 0x116F "WEO" ∷
    short 0x1170 "WE" ∷
    short 0x1171 "WI" ∷
    short 0x1172 "YU" ∷
    short 0x1173 "EU" ∷
    short 0x1174 "YI" ∷
    short 0x1175 "I" ∷
    short 0x11A8 "G" ∷
    short 0x11A9 "GG" ∷
    short 0x11AA "GS" ∷
    short 0x11AB "N" ∷
    short 0x11AC "NJ" ∷
    short 0x11AD "NH" ∷
    short 0x11AE "D" ∷
    short 0x11AF "L" ∷
    short 0x11B0 "LG" ∷
    short 0x11B1 "LM" ∷
    short 0x11B2 "LB" ∷
    short 0x11B3 "LS" ∷
    short 0x11B4 "LT" ∷
    short 0x11B5 "LP" ∷
    short 0x11B6 "LH" ∷
    short 0x11B7 "M" ∷
    short 0x11B8 "B" ∷
    short 0x11B9 "BS" ∷
    short 0x11BA "S" ∷
    short 0x11BB "SS" ∷
    short 0x11BC "NG" ∷
    short 0x11BD "J" ∷
    short 0x11BE "C" ∷
    short 0x11BF "K" ∷
    short 0x11C0 "T" ∷
    short 0x11C1 "P" ∷
    short 0x11C2 "H" ∷
    []

-- the short name that the lines give to a code point; one that they do not list has none
abbrev pub short_in : List JamoLine → ℕ → List ℕ
short_in [] c = []
short_in (short code name ∷ lines) c = cond (eqb c code) (ascii name) (short_in lines c)

unfoldable pub short_name : ℕ → List ℕ
short_name c = short_in jamo_txt c

-- NR1: the prefix, then the short names of the syllable's full canonical decomposition
abbrev pub rule_nr1 : ℕ → List ℕ
rule_nr1 s = ascii "HANGUL SYLLABLE " ++ each short_name (decomposition s)
