-- THE NAME IS NR1'S (`name-nr1`): document 01's three strings are the short names that Jamo.txt
-- gives to the letters of the syllable's full canonical decomposition. One computed test for each
-- of document 01's lists holds it to Jamo.txt; the rule follows for every syllable.
use mathlib.Core.Path.{◌≡◌, refl, ◌∙◌, ap}
use mathlib.Core.Bool.{Bool, true, false}
use mathlib.Core.List.{List, [], ◌++◌, append-nil}
use Prim.Native.Nat.{ℕ, ◌+◌, ◌<◌}
use lib.Dec.{T, eqb}
use lib.ListN.{length, get_or}
use borrow.Author.Tests.{eqb-true, eqb-false}
use Rattle.laws.specs.Lists.{each}
use Rattle.laws.specs.Strings.{same, picked}
use Rattle.laws.proofs.Bools.{T_true}
use Rattle.laws.proofs.Lists.{each-cons, each-one}
use Rattle.laws.proofs.Strings.{same_true}
use Rattle.laws.proofs.Tables.{every, every-at}
use Rattle.letters.specs.Syllables.{is_syllable, initial_of, peak_of, final_of, parts_of}
use Rattle.letters.proofs.Steps.{syllable-least, syllable-most, initial-below, peak-below, final-below}
use Rattle.letters.proofs.FullParts.{parts-lv, parts-lvt}
use Rattle.letters.proofs.Chapter3.{parts-decomposition}
use Rattle.names.specs.Names.{initials, peaks, finals, prefix, name_by, name_of}
use Rattle.names.specs.NR1.{jamo_txt, short_name, rule_nr1}

-- ---- the three lists and Jamo.txt

-- the strings are the short names of the code points from `first` on
abbrev short_from : ℕ → List (List ℕ) → Bool
short_from first strings = every (λ n string. same (short_name (first + n)) string) 0 strings

short-at : (first : ℕ) (strings : List (List ℕ)) → T (short_from first strings) → (n : ℕ) → n < length strings → short_name (first + n) ≡ get_or strings n []
short-at first strings t n h = same_true _ _ (T_true _ (every-at (λ n string. same (short_name (first + n)) string) [] strings t n h))

pub short-initial : (i : ℕ) → i < 19 → short_name (0x1100 + i) ≡ get_or initials i []
unfolding initials short_name jamo_txt
short-initial i h = short-at 0x1100 initials tt i h

pub short-peak : (p : ℕ) → p < 21 → short_name (0x1161 + p) ≡ get_or peaks p []
unfolding peaks short_name jamo_txt
short-peak p h = short-at 0x1161 peaks tt p h

-- Jamo.txt has no 11A7, and a syllable with no final has no third string
pub short-final : (f : ℕ) → f < 28 → short_name (0x11A7 + f) ≡ get_or finals f []
unfolding finals short_name jamo_txt
short-final f h = short-at 0x11A7 finals tt f h

final-none : get_or finals 0 [] ≡ []
unfolding finals
final-none = refl

-- ---- the rule

pub name-nr1 : (s : ℕ) → is_syllable s ≡ true → name_of s ≡ rule_nr1 s
unfolding name_by prefix
name-nr1 s h = ap (λ (l : List ℕ). prefix ++ l) (by-final (eqb (final_of s) 0) refl ∙ ap (each short_name) (parts-decomposition s))
  where
    first : short_name (0x1100 + initial_of s) ≡ get_or initials (initial_of s) []
    first = short-initial (initial_of s) (initial-below s (syllable-least s h) (syllable-most s h))

    second : short_name (0x1161 + peak_of s) ≡ get_or peaks (peak_of s) []
    second = short-peak (peak_of s) (peak-below s (syllable-least s h) (syllable-most s h))

    third : short_name (0x11A7 + final_of s) ≡ get_or finals (final_of s) []
    third = short-final (final_of s) (final-below s (syllable-least s h) (syllable-most s h))

    by-final : (b : Bool) → eqb (final_of s) 0 ≡ b → picked initials peaks finals (initial_of s) (peak_of s) (final_of s) ≡ each short_name (parts_of s)
    by-final true q =
        let e = eqb-true (final_of s) 0 q in
        rw (parts-lv 0 s h e, each-cons, each-one, first, second, e, final-none, append-nil)
    by-final false q = rw (parts-lvt 0 s h (eqb-false (final_of s) 0 q), each-cons, each-cons, each-one, first, second, third)
