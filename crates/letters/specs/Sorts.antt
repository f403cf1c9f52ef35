-- The sort of a code point: document 01, 'Sorts of characters', line by line, with the letters of
-- document 02, #106. A letter has a class, its place and age, by ranges of its number; and a make:
-- it is simple, or a cluster. A number that is no code point is other as well: the calls refuse it
-- first.
use Rattle.std.specs.Prelude.{Bool, cond, List, [], ◌∷◌, ℕ, ◌+◌, ◌-◌, ◌%◌, eqb}
use Rattle.laws.specs.Lists.{count}
use Rattle.laws.specs.Ranges.{within, Range, range, look}
use Rattle.letters.specs.declared.sort.Make.{Make}
use Rattle.letters.specs.declared.sort.Make.TheVariants.{Simple, Cluster}
use Rattle.letters.specs.declared.sort.Sort.{Sort}
use Rattle.letters.specs.declared.sort.Sort.TheVariants.{ModernInitial, OldInitial, InitialFiller, PeakFiller, ModernPeak, OldPeak, ModernFinal, OldFinal, Lv, Lvt, Other}

-- the class of a number: a letter's place and age, a filler's place, or neither
pub data Class : Type 0 where
  modern_initial : Class
  old_initial : Class
  initial_filler : Class
  peak_filler : Class
  modern_peak : Class
  old_peak : Class
  modern_final : Class
  old_final : Class
  neither : Class

-- the last three ranges are the blocks Hangul Jamo Extended-A and Extended-B
abbrev pub class_ranges : List (Range Class)
class_ranges =
    range 0x1100 0x1112 modern_initial
    ∷ range 0x1113 0x115E old_initial
    ∷ range 0x115F 0x115F initial_filler
    ∷ range 0x1160 0x1160 peak_filler
    ∷ range 0x1161 0x1175 modern_peak
    ∷ range 0x1176 0x11A7 old_peak
    ∷ range 0x11A8 0x11C2 modern_final
    ∷ range 0x11C3 0x11FF old_final
    ∷ range 0xA960 0xA97C old_initial
    ∷ range 0xD7B0 0xD7C6 old_peak
    ∷ range 0xD7CB 0xD7FB old_final
    ∷ []

unfoldable pub class_of : ℕ → Class
class_of c = look neither c class_ranges

-- the 51 simple letters: 14 + 9 initials, 10 + 1 peaks, 14 + 3 finals (source document 002,
-- sections 1.2 and 1.8); every other letter is a cluster
abbrev pub simple_ranges : List (Range Make)
simple_ranges =
    range 0x1100 0x1100 Simple ∷ range 0x1102 0x1103 Simple ∷ range 0x1105 0x1107 Simple ∷ range 0x1109 0x1109 Simple ∷ range 0x110B 0x110C Simple
    ∷ range 0x110E 0x1112 Simple
    ∷ range 0x113C 0x113C Simple ∷ range 0x113E 0x113E Simple ∷ range 0x1140 0x1140 Simple ∷ range 0x114C 0x114C Simple ∷ range 0x114E 0x114E Simple
    ∷ range 0x1150 0x1150 Simple ∷ range 0x1154 0x1155 Simple ∷ range 0x1159 0x1159 Simple
    ∷ range 0x1161 0x1161 Simple ∷ range 0x1163 0x1163 Simple ∷ range 0x1165 0x1165 Simple ∷ range 0x1167 0x1167 Simple ∷ range 0x1169 0x1169 Simple
    ∷ range 0x116D 0x116E Simple ∷ range 0x1172 0x1173 Simple ∷ range 0x1175 0x1175 Simple
    ∷ range 0x119E 0x119E Simple
    ∷ range 0x11A8 0x11A8 Simple ∷ range 0x11AB 0x11AB Simple ∷ range 0x11AE 0x11AF Simple ∷ range 0x11B7 0x11B8 Simple ∷ range 0x11BA 0x11BA Simple
    ∷ range 0x11BC 0x11C2 Simple
    ∷ range 0x11EB 0x11EB Simple ∷ range 0x11F0 0x11F0 Simple ∷ range 0x11F9 0x11F9 Simple
    ∷ []

unfoldable pub make_of : ℕ → Make
make_of c = look Cluster c simple_ranges

abbrev pub sort_in : Class → Make → Sort
sort_in modern_initial m = ModernInitial m
sort_in old_initial m = OldInitial m
sort_in initial_filler m = InitialFiller
sort_in peak_filler m = PeakFiller
sort_in modern_peak m = ModernPeak m
sort_in old_peak m = OldPeak m
sort_in modern_final m = ModernFinal m
sort_in old_final m = OldFinal m
sort_in neither m = Other

-- AC00–D7A3: LV when (s − AC00) mod 28 is 0, else LVT; all else by its class and its make
unfoldable pub sort_of : ℕ → Sort
sort_of c = cond (within 0xAC00 0xD7A3 c) (cond (eqb ((c - 0xAC00) % 28) 0) Lv Lvt) (sort_in (class_of c) (make_of c))

-- the sorts numbered in this order, so that a test can tell them apart
abbrev pub make_number : Make → ℕ
make_number Simple = 0
make_number Cluster = 1

abbrev pub sort_number : Sort → ℕ
sort_number (ModernInitial m) = make_number m
sort_number (OldInitial m) = 2 + make_number m
sort_number InitialFiller = 4
sort_number PeakFiller = 5
sort_number (ModernPeak m) = 6 + make_number m
sort_number (OldPeak m) = 8 + make_number m
sort_number (ModernFinal m) = 10 + make_number m
sort_number (OldFinal m) = 12 + make_number m
sort_number Lv = 14
sort_number Lvt = 15
sort_number Other = 16

abbrev pub has_sort : Sort → ℕ → Bool
has_sort s c = eqb (sort_number (sort_of c)) (sort_number s)

-- how many of all code points, 0 to 10FFFF, have the sort
abbrev pub how_many : Sort → ℕ
how_many s = count (has_sort s) 0 0x110000
