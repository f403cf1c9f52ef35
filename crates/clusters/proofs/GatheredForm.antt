-- Laws of gathered form. It has: a text and its clusters fall into the same groups (`groups`), so
-- that they are no longer and have the same simple form; A GATHERED TEXT HAS THE SIMPLE FORM IT
-- CAME FROM (`simple-gathered`), gathering it again changes nothing, and two texts gather to the
-- same exactly when their simple forms are the same; how long it is (`gathered-most`); a code that
-- has no place is a place to cut (`clustered-cut`); the machine that gathers letter by letter gives
-- the same (`from-gatherer`, `gathered-coded`); cases of documents 01 and 02.
use mathlib.Core.Path.{◌≡◌, refl, sym, ◌∙◌, ap}
use mathlib.Core.Option.{Option, none, some}
use mathlib.Core.List.{List, [], ◌∷◌, ◌++◌}
use Prim.Native.Nat.{ℕ, ◌*◌, ◌≤◌}
use native.Mathlib.Omega.{arith}
use lib.ListN.{length}
use Rattle.laws.specs.Lists.{each}
use Rattle.laws.specs.Machines.{from, Splits}
use Rattle.laws.specs.Ranges.{within}
use Rattle.laws.proofs.Lists.{each-one, each-alone}
use Rattle.laws.proofs.Machines.{from-chained, from-fed}
use Rattle.letters.specs.Sorts.{class_of, make_of, sort_of}
use Rattle.letters.specs.Syllables.{is_syllable, one_step, parts_to}
use Rattle.letters.proofs.Steps.{step_other, syllable-below}
use Rattle.letters.proofs.FullParts.{Closed}
use Rattle.joining.specs.Roles.{role_of, pair}
use Rattle.joining.specs.Joining.{join, joiner, opens}
use Rattle.joining.specs.declared.joiner.Open.TheVariants.{Nothing as NothingOpen}
use Rattle.joining.proofs.Joins.{join-most}
use Rattle.clusters.specs.Table.{clusters, letters_of, nowhere, place_of}
use Rattle.clusters.specs.Simple.{simple, simple_of}
use Rattle.clusters.specs.Gathering.{two_of, three_of, longest, clustered, gathered}
use Rattle.clusters.specs.Inner.{undecided, gatherer, gathering, coded}
use Rattle.clusters.specs.declared.gather.Pending.{Pending}
use Rattle.clusters.specs.declared.gather.Pending.TheVariants.{Nothing, One, Two}
use Rattle.clusters.proofs.Codes.{row-beside}
use Rattle.clusters.proofs.Rule.{letters-alone, letters-all}
use Rattle.clusters.proofs.SimpleForm.{simple-itself, simple-each, simple-append, simple-most, simple-simple, simple-of-joined, closed_parts}
use Rattle.clusters.proofs.Clustering.{listed-row, two-listed, three-listed, two-nowhere, second-nowhere, third-nowhere}

-- ---- the groups: a letter that stays, two that are a cluster, or three

pub data Groups : List ℕ → List ℕ → Type 0 where
  no-group : Groups [] []
  alone : (a : ℕ) {x y : List ℕ} → Groups x y → Groups (a ∷ x) (a ∷ y)
  of_two : (k a b : ℕ) {x y : List ℕ} → two_of a b ≡ some k → Groups x y → Groups (a ∷ b ∷ x) (k ∷ y)
  of_three : (k a b c : ℕ) {x y : List ℕ} → three_of a b c ≡ some k → Groups x y → Groups (a ∷ b ∷ c ∷ x) (k ∷ y)

pub groups : (x : List ℕ) → Groups x (clustered x)
unfolding clustered
groups [] = no-group
groups (a ∷ []) = alone a no-group
groups (a ∷ b ∷ []) = by (two_of a b) refl
  where
    by : (o : Option ℕ) → two_of a b ≡ o → Groups (a ∷ b ∷ []) (longest none o a [] [] (b ∷ []))
    by none e = alone a (alone b no-group)
    by (some k) e = of_two k a b e no-group
groups (a ∷ b ∷ c ∷ x) = by (groups x) (groups (c ∷ x)) (groups (b ∷ c ∷ x)) (three_of a b c) (two_of a b) refl refl
  where
    by : Groups x (clustered x) → Groups (c ∷ x) (clustered (c ∷ x)) → Groups (b ∷ c ∷ x) (clustered (b ∷ c ∷ x)) → (o p : Option ℕ) → three_of a b c ≡ o
        → two_of a b ≡ p → Groups (a ∷ b ∷ c ∷ x) (longest o p a (clustered x) (clustered (c ∷ x)) (clustered (b ∷ c ∷ x)))
    by g h i (some k) p e d = of_three k a b c e g
    by g h i none (some k) e d = of_two k a b d h
    by g h i none none e d = alone a i

-- ---- how long

groups-most : {x y : List ℕ} → Groups x y → length y ≤ length x
groups-most no-group = omega arith
groups-most (alone a g) = omega (arith, groups-most g)
groups-most (of_two k a b e g) = omega (arith, groups-most g)
groups-most (of_three k a b c e g) = omega (arith, groups-most g)

pub clustered-most : (x : List ℕ) → length (clustered x) ≤ length x
clustered-most x = groups-most (groups x)

-- AT MOST 7n
pub gathered-most : (x : List ℕ) → length (gathered x) ≤ 7 * length x
unfolding gathered
gathered-most x = omega (arith, join-most (clustered (simple x)), clustered-most (simple x), simple-most x)

-- ---- the simple form

low-closed : (c : ℕ) → c ≤ 0x11FF → Closed c
low-closed c h = step_other c (syllable-below c (omega arith))

-- of a cluster its letters, and of these too
module _ (k : ℕ) {a b : ℕ} {x : List ℕ} (e : letters_of k ≡ a ∷ b ∷ x) where
  closed-cluster : Closed k
  closed-cluster = step_other k (row-beside k (listed-row k e))

  simple-cluster : simple (k ∷ []) ≡ a ∷ b ∷ x
  simple-cluster = simple-each (k ∷ []) ∙ each-one simple_of k ∙ simple-itself k closed-cluster ∙ e

  simple-letters : simple (a ∷ b ∷ x) ≡ a ∷ b ∷ x
  unfolding simple
  simple-letters =
      rw e at (
      ap (each letters_of) (closed_parts (letters-all Closed (λ l h g. low-closed l (omega arith)) k closed-cluster))
      ∙ each-alone letters_of (letters-alone k)
      )

  simple-group : (y z : List ℕ) → simple y ≡ simple z → simple (k ∷ y) ≡ simple ((a ∷ b ∷ x) ++ z)
  simple-group y z h =
      simple-append (k ∷ []) y ∙ ap (λ (l : List ℕ). l ++ simple y) (simple-cluster ∙ sym simple-letters)
      ∙ ap (λ (l : List ℕ). simple (a ∷ b ∷ x) ++ l) h ∙ sym (simple-append (a ∷ b ∷ x) z)

groups-simple : {x y : List ℕ} → Groups x y → simple y ≡ simple x
groups-simple no-group = refl
groups-simple (alone a {x} {y} g) =
    simple-append (a ∷ []) y ∙ ap (λ (l : List ℕ). simple (a ∷ []) ++ l) (groups-simple g) ∙ sym (simple-append (a ∷ []) x)
groups-simple (of_two k a b {x} {y} e g) = simple-group k (two-listed a b k e) y x (groups-simple g)
groups-simple (of_three k a b c {x} {y} e g) = simple-group k (three-listed a b c k e) y x (groups-simple g)

-- CLUSTERS CHANGE NO SIMPLE FORM
pub simple-clustered : (x : List ℕ) → simple (clustered x) ≡ simple x
simple-clustered x = groups-simple (groups x)

-- A GATHERED TEXT HAS THE SIMPLE FORM IT CAME FROM
pub simple-gathered : (x : List ℕ) → simple (gathered x) ≡ simple x
unfolding gathered
simple-gathered x = simple-of-joined (clustered (simple x)) ∙ simple-clustered (simple x) ∙ simple-simple x

-- two texts gather to the same exactly when their simple forms are the same
pub same-gathered : (x y : List ℕ) → simple x ≡ simple y → gathered x ≡ gathered y
unfolding gathered
same-gathered x y e = ap (λ (l : List ℕ). join (clustered l)) e

pub gathered-same : (x y : List ℕ) → gathered x ≡ gathered y → simple x ≡ simple y
gathered-same x y e = sym (simple-gathered x) ∙ ap simple e ∙ simple-gathered y

-- GATHERING IT AGAIN CHANGES NOTHING
pub gathered-again : (x : List ℕ) → gathered (gathered x) ≡ gathered x
gathered-again x = same-gathered (gathered x) x (simple-gathered x)

-- ---- where letters may be cut: before a code that has no place

module _ (c : ℕ) (n : place_of c ≡ nowhere) (y : List ℕ) where
  -- one letter before it stays alone
  pub cut-one : (a : ℕ) (z : List ℕ) → clustered (a ∷ c ∷ z) ≡ a ∷ clustered (c ∷ z)
  unfolding clustered
  cut-one a [] = rw (two-nowhere a c n)
  cut-one a (d ∷ z) = rw (second-nowhere a c d n, two-nowhere a c n)

  longest-same : (o p : Option ℕ) (a : ℕ) {x₃ x₂ x₁ y₃ y₂ y₁ : List ℕ} → x₃ ≡ y₃ → x₂ ≡ y₂ → x₁ ≡ y₁
      → longest o p a x₃ x₂ x₁ ≡ longest o p a y₃ y₂ y₁
  longest-same o p a e₃ e₂ e₁ = rw (e₃, e₂, e₁)

  longest-cut : (o p : Option ℕ) (a : ℕ) (x₃ x₂ x₁ z : List ℕ) → longest o p a (x₃ ++ z) (x₂ ++ z) (x₁ ++ z) ≡ longest o p a x₃ x₂ x₁ ++ z
  longest-cut (some k) p a x₃ x₂ x₁ z = refl
  longest-cut none (some k) a x₃ x₂ x₁ z = refl
  longest-cut none none a x₃ x₂ x₁ z = refl

  pair-cut : (p : Option ℕ) (a b : ℕ) (x z : List ℕ) → longest none p a x z (b ∷ z) ≡ longest none p a [] [] (b ∷ []) ++ z
  pair-cut (some k) a b x z = refl
  pair-cut none a b x z = refl

  pub clustered-cut : Splits clustered (c ∷ y)
  unfolding clustered
  clustered-cut [] = refl
  clustered-cut (a ∷ []) = cut-one a y
  clustered-cut (a ∷ b ∷ []) =
      rw (third-nowhere a b c n, cut-one b y) (pair-cut (two_of a b) a b (clustered y) (clustered (c ∷ y)))
  clustered-cut (a ∷ b ∷ d ∷ x) =
      longest-same (three_of a b d) (two_of a b) a (clustered-cut x) (clustered-cut (d ∷ x)) (clustered-cut (b ∷ d ∷ x))
      ∙ longest-cut (three_of a b d) (two_of a b) a (clustered x) (clustered (d ∷ x)) (clustered (b ∷ d ∷ x)) (clustered (c ∷ y))

-- ---- letter by letter

-- the letters not yet decided, and those after them
abbrev pub held_before : Pending → List ℕ → List ℕ
held_before Nothing x = x
held_before (One a) x = a ∷ x
held_before (Two a b) x = a ∷ b ∷ x

module _ (a b c : ℕ) (x : List ℕ) (rest : (p : Pending) → from gatherer p x ≡ clustered (held_before p x)) where
  decided-from : (o p : Option ℕ)
      → longest o p a [] [] [] ++ from gatherer (undecided o p b c) x ≡ longest o p a (clustered x) (clustered (c ∷ x)) (clustered (b ∷ c ∷ x))
  decided-from (some k) p = ap (λ (l : List ℕ). k ∷ l) (rest Nothing)
  decided-from none (some k) = ap (λ (l : List ℕ). k ∷ l) (rest (One c))
  decided-from none none = ap (λ (l : List ℕ). a ∷ l) (rest (Two b c))

-- THE MACHINE GATHERS WHAT IS DEFINED
pub from-gatherer : (x : List ℕ) (p : Pending) → from gatherer p x ≡ clustered (held_before p x)
unfolding clustered
from-gatherer [] Nothing = refl
from-gatherer [] (One a) = refl
from-gatherer [] (Two a b) = refl
from-gatherer (c ∷ x) Nothing = from-gatherer x (One c)
from-gatherer (c ∷ x) (One a) = from-gatherer x (Two a c)
from-gatherer (c ∷ x) (Two a b) = decided-from a b c x (from-gatherer x) (three_of a b c) (two_of a b)

-- and with the letters of each code point before it, and joining after it, the gathered form
pub gathered-coded : (text : List ℕ) → from coded (Nothing, NothingOpen) text ≡ gathered text
unfolding gathered
gathered-coded text =
    from-fed simple_of gathering text (Nothing, NothingOpen) ∙ ap (from gathering (Nothing, NothingOpen)) (sym (simple-each text))
    ∙ from-chained gatherer joiner (simple text) Nothing NothingOpen ∙ ap join (from-gatherer (simple text) Nothing)

-- ---- cases of document 01: three letters before two; going on after a cluster; case 7 and case 8;
-- longer than the text given

pub three-first : clustered (0x1107 ∷ 0x1109 ∷ 0x1100 ∷ []) ≡ 0x1122 ∷ []
unfolding clustered two_of three_of clusters
three-first = refl

pub after-cluster : clustered (0x1109 ∷ 0x1107 ∷ 0x1109 ∷ 0x1100 ∷ []) ≡ 0x1132 ∷ 0x112D ∷ []
unfolding clustered two_of three_of clusters
after-cluster = refl

pub case-seven : gathered (0x1100 ∷ 0x1100 ∷ 0x1161 ∷ []) ≡ 0xAE4C ∷ []
unfolding gathered simple parts_to one_step is_syllable each letters_of clustered two_of three_of clusters pair opens role_of sort_of class_of make_of within
case-seven = refl

pub case-eight : gathered (0x1100 ∷ 0x1161 ∷ 0x1175 ∷ []) ≡ 0xAC1C ∷ []
unfolding gathered simple parts_to one_step is_syllable each letters_of clustered two_of three_of clusters pair opens role_of sort_of class_of make_of within
case-eight = refl

pub case-longer : gathered (0x1107 ∷ 0xAC01 ∷ []) ≡ 0x111E ∷ 0x1161 ∷ 0x11A8 ∷ []
unfolding gathered simple parts_to one_step is_syllable each letters_of clustered two_of three_of clusters pair opens role_of sort_of class_of make_of within
case-longer = refl

-- ---- cases of document 02, #102: an old peak and an old final; twice as long as the text given

pub case-old : gathered (0x1100 ∷ 0x1175 ∷ 0x119E ∷ 0x11AF ∷ 0x11AE ∷ 0x11C2 ∷ []) ≡ 0x1100 ∷ 0x119D ∷ 0x11CF ∷ []
unfolding gathered simple parts_to one_step is_syllable each letters_of clustered two_of three_of clusters pair opens role_of sort_of class_of make_of within
case-old = refl

pub case_twice : gathered (0xD07D ∷ 0x11CF ∷ []) ≡ 0xD06C ∷ 0x11E3 ∷ 0x11AE ∷ 0x11C2 ∷ []
unfolding gathered simple parts_to one_step is_syllable each letters_of clustered two_of three_of clusters pair opens role_of sort_of class_of make_of within
case_twice = refl

-- ---- cases of document 02, #106: initials of the extended block, three letters before two, and a
-- letter before a peak that it has no row with; a letter in 01's table

pub case-extended : gathered (0x1103 ∷ 0x1106 ∷ 0x1161 ∷ []) ≡ 0xA960 ∷ 0x1161 ∷ []
unfolding gathered simple parts_to one_step is_syllable each letters_of clustered two_of three_of clusters pair opens role_of sort_of class_of make_of within
case-extended = refl

pub case-extended-three : gathered (0x1105 ∷ 0x1100 ∷ 0x1100 ∷ 0x1105 ∷ 0x1100 ∷ []) ≡ 0xA965 ∷ 0xA964 ∷ []
unfolding gathered simple parts_to one_step is_syllable each letters_of clustered two_of three_of clusters pair opens role_of sort_of class_of make_of within
case-extended-three = refl

pub case-extended-simple : simple (0xA960 ∷ 0x1161 ∷ 0x115A ∷ []) ≡ 0x1103 ∷ 0x1106 ∷ 0x1161 ∷ 0x1100 ∷ 0x1103 ∷ []
unfolding simple parts_to one_step is_syllable each letters_of clusters within
case-extended-simple = refl
