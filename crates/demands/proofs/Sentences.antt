-- Document 01's sentences, each from the laws and definitions of its crate.
use mathlib.Core.Path.{◌≡◌, refl, sym, ap}
use mathlib.Core.Bool.{Bool, true, false, cond}
use mathlib.Core.Logic.{◌⊎◌, inl, inr}
use mathlib.Core.List.{[], ◌∷◌}
use Prim.Native.Nat.{ℕ}
use native.Mathlib.Omega.{arith}
use lib.Dec.{ltb}
use lib.ListN.{length}
use Rattle.laws.specs.Lists.{each}
use Rattle.laws.specs.Ranges.{within}
use Rattle.answers.specs.Checks.{Check, passes, refuses, in_order, over_limit, no_room, takes_units}
use Rattle.answers.proofs.Orders.{passes-refuses}
use Rattle.letters.specs.Syllables.{is_syllable, one_step, parts_to}
use Rattle.letters.proofs.Counts.{modern-initials, old-initials, modern-peaks, old-peaks, modern-finals, old-finals}
use Rattle.encodings.specs.Rows.{row_in}
use Rattle.ranking.specs.Ranking.{rank_item}
use Rattle.ranking.specs.Items.{Item, number, character}
use Rattle.std.specs.declared.cmp.Ordering.TheVariants.{Equal}
use Rattle.ranking.proofs.Orders.{by-value-self}
use Rattle.labels.specs.Images.{over_image, no_record, takes_record, takes_writing}
use Rattle.demands.specs.Sentences.{LettersCounted, Ac0c, OnlyByLength, TrueFffd, NumbersFirst, BeginningFirst, JudgedAlone, NothingStoredJudged}

pub letters-counted : LettersCounted
letters-counted = (
  omega (arith, modern-initials.0, modern-initials.1, old-initials.0, old-initials.1),
  omega (arith, modern-peaks.0, modern-peaks.1, old-peaks.0, old-peaks.1),
  omega (arith, modern-finals.0, modern-finals.1, old-finals.0, old-finals.1),
)

pub ac0c : Ac0c
unfolding each parts_to one_step is_syllable within
ac0c = refl

abbrev number_of : Check → ℕ
number_of passes = 0
number_of (refuses n place) = n

-- of two checks in order, the second refusing with 3 and the first with 1
one-or-three : (t u : Bool) (l m n place : ℕ) → in_order (cond t (refuses 1 l) passes ∷ cond u (refuses 3 m) passes ∷ []) ≡ refuses n place → (n ≡ 1) ⊎ (n ≡ 3)
one-or-three true u l m n place e = inl (sym (ap number_of e))
one-or-three false true l m n place e = inr (sym (ap number_of e))
one-or-three false false l m n place e = absurd (passes-refuses e)

pub only-by-length : OnlyByLength
unfolding takes_units over_limit no_room
only-by-length text whole out n place e = one-or-three (ltb 16384 (length text)) (ltb (length out) (length whole)) 16384 (length whole) n place e

pub true-fffd : TrueFffd
unfolding row_in within
true-fffd = (refl, refl)

pub numbers-first : NumbersFirst
numbers-first n c x y = refl

item-self : (a : Item) → rank_item a a ≡ Equal
item-self (number a) = by-value-self a
item-self (character a) = by-value-self a

pub beginning-first : BeginningFirst
beginning-first [] b y = refl
beginning-first (a ∷ x) b y = rw (item-self a) (beginning-first x b y)

pub judged-alone : JudgedAlone
unfolding takes_record over_image no_record
judged-alone image other k e same = rw (e, same)

pub nothing-stored-judged : NothingStoredJudged
unfolding takes_writing over_image no_record
nothing-stored-judged image other k form label e = rw e
