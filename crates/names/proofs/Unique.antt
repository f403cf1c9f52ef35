-- A name belongs to one syllable. In order: no two strings of a list are equal, the peaks' letters
-- are vowels and the others' are none, which is computed over the three lists (`name-splits`); so
-- the indices are known by the name (`name-injective`), and DIFFERENT SYLLABLES HAVE DIFFERENT
-- NAMES (`names-differ`).
use mathlib.Core.Path.{◌≡◌, refl, sym, ◌∙◌}
use mathlib.Core.Bool.{Bool, true, false, not}
use mathlib.Core.List.{List, [], ◌∷◌, cons≢nil}
use Prim.Native.Nat.{ℕ, ◌<◌}
use lib.Dec.{T}
use borrow.Author.Tests.{not-true}
use Rattle.laws.specs.Lists.{All}
use Rattle.laws.specs.Strings.{picked, Separable}
use Rattle.laws.proofs.Bools.{T_true}
use Rattle.laws.proofs.Lists.{cut-back}
use Rattle.laws.proofs.Tables.{every}
use Rattle.laws.proofs.Strings.{every-all, packed-distinct, split-once}
use Rattle.letters.specs.Syllables.{is_syllable, initial_of, peak_of, final_of}
use Rattle.letters.proofs.Steps.{syllable, syllable-least, syllable-most, initial-below, peak-below, final-below, syllable-determined}
use Rattle.names.specs.Names.{initials, peaks, finals, prefix, name_by, name_of}
use Rattle.names.specs.Inner.{vowel}

-- ---- the three lists

-- every letter of every string is a vowel, or none is; and no string is empty
abbrev free : List ℕ → Bool
free x = every (λ n c. not (vowel c)) 0 x

abbrev full : List ℕ → Bool
full x = every (λ n c. vowel c) 0 x

abbrev some : List ℕ → Bool
some [] = false
some (c ∷ x) = true

all-free : (l : List (List ℕ)) → T (every (λ n x. free x) 0 l) → All (λ x. All (λ c. vowel c ≡ false) x) l
all-free l t = every-all free (λ x u. every-all (λ c. not (vowel c)) (λ c v. not-true (vowel c) (T_true (not (vowel c)) v)) x 0 u) l 0 t

all-full : (l : List (List ℕ)) → T (every (λ n x. full x) 0 l) → All (λ x. All (λ c. vowel c ≡ true) x) l
all-full l t = every-all full (λ x u. every-all vowel (λ c v. T_true (vowel c) v) x 0 u) l 0 t

not-empty : (x : List ℕ) → T (some x) → x ≡ [] → ⊥
not-empty [] t e = absurd t
not-empty (c ∷ x) t e = cons≢nil e

pub name-splits : Separable vowel initials peaks finals
unfolding initials peaks finals
name-splits = record {
  first-free = all-free initials tt;
  second-full = all-full peaks tt;
  second-some = every-all some not-empty peaks 0 tt;
  third-free = all-free finals tt;
  first-distinct = packed-distinct initials tt;
  second-distinct = packed-distinct peaks tt;
  third-distinct = packed-distinct finals tt;
}

-- ---- names

pub name-injective : (i p f j q g : ℕ) → i < 19 → j < 19 → p < 21 → q < 21 → f < 28 → g < 28 → name_by i p f ≡ name_by j q g
    → (i ≡ j) × (p ≡ q) × (f ≡ g)
unfolding name_by initials peaks finals
name-injective i p f j q g hi hj hp hq hf hg e =
    split-once name-splits i p f j q g hi hj hp hq hf hg
    (cut-back prefix (picked initials peaks finals i p f) prefix (picked initials peaks finals j q g) e refl)

pub names-differ : (s t : ℕ) → is_syllable s ≡ true → is_syllable t ≡ true → name_of s ≡ name_of t → s ≡ t
names-differ s t hs ht e =
    let ls = syllable-least s hs in
    let ms = syllable-most s hs in
    let lt = syllable-least t ht in
    let mt = syllable-most t ht in
    let h =
    name-injective (initial_of s) (peak_of s) (final_of s) (initial_of t) (peak_of t) (final_of t) (initial-below s ls ms) (initial-below t lt mt)
    (peak-below s ls ms) (peak-below t lt mt) (final-below s ls ms) (final-below t lt mt) e in
    sym (syllable-determined s ls ms) ∙ same h.0 h.1 h.2 ∙ syllable-determined t lt mt
  where
    same : {i p f j q g : ℕ} → i ≡ j → p ≡ q → f ≡ g → syllable i p f ≡ syllable j q g
    same a b c = cc
