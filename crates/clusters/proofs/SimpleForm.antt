-- Laws of simple form. In order: of one code point, by its parts; how long it is of one code point;
-- of a text, code point by code point, its length, and what a loop over a text asks; nothing
-- changes any more in a simple form, and it is the same of a text, of its parts and of the text
-- joined, and so are the simple letters and the other characters (`SameCharacters`).
use mathlib.Core.Path.{◌≡◌, refl, sym, ◌∙◌, ap}
use mathlib.Core.Bool.{true, false}
use mathlib.Core.List.{List, [], ◌∷◌, ◌++◌}
use Prim.Native.Nat.{ℕ, ◌+◌, ◌*◌, ◌≤◌, ◌<◌}
use native.Mathlib.Omega.{arith}
use lib.ListN.{length, get_or, drop, length-append}
use Rattle.laws.specs.Lists.{each, All}
use Rattle.laws.proofs.Lists.{each-end, each-one, each-cons, each_append, each-each, each-alone, all_map, all-each, all-each-of, length-each-least, length-each-most}
use Rattle.laws.specs.Writing.{Room, Wrote}
use Rattle.laws.proofs.Filling.{Piece, each-piece}
use Rattle.answers.specs.Checks.{bad}
use Rattle.letters.specs.Syllables.{is_syllable, initial_of, peak_of, final_of, one_step, parts_of, full_parts}
use Rattle.letters.specs.Answers.{parts_in}
use Rattle.letters.specs.declared.step.Parts.TheVariants.{One as OnePart}
use Rattle.letters.specs.declared.parts.Whole.{Whole}
use Rattle.letters.specs.declared.parts.Whole.TheVariants.{One, Two, Three}
use Rattle.letters.proofs.Sorts.{class-between}
use Rattle.letters.proofs.Steps.{syllable-below, syllable-most, step_other, by-step}
use Rattle.letters.proofs.FullParts.{parts-one, parts-other, parts-lv, parts-lvt, Closed, full-append, full-closed, full-full, full-of-step, full-good, full-least}
use Rattle.joining.specs.Joining.{join}
use Rattle.joining.proofs.Joins.{parts_join}
use Rattle.clusters.specs.Table.{letters_of}
use Rattle.clusters.specs.Simple.{simple, simple_of, simple_letters, other_characters}
use Rattle.clusters.proofs.Rule.{letters-alone, letters-least, letters-most, initial-most, final-most, letters-all, letters-good}

-- ---- of one code point: it has one part, two or three

-- p is its full parts by value, as the code has them
module _ (c : ℕ) {p : Whole} (parts : parts_in p ≡ parts_of c) where
  pub simple-one : {a : ℕ} → p ≡ One a → simple_of c ≡ letters_of a
  unfolding simple_of
  simple-one {a} e = rw (← parts, e) (each-one letters_of a)

  pub simple-two : {a b : ℕ} → p ≡ Two a b → Piece (simple_of c) (letters_of a) (letters_of b)
  unfolding simple_of
  simple-two {a} {b} e = record { eq = rw (← parts, e) (each-cons letters_of a (b ∷ []) ∙ ap (λ (l : List ℕ). letters_of a ++ l) (each-one letters_of b)) }

  pub simple-three : {a b d : ℕ} → p ≡ Three a b d → Piece (simple_of c) (letters_of a) (letters_of b ++ letters_of d)
  unfolding simple_of
  simple-three {a} {b} {d} e =
      record {
        eq = rw (← parts, e)
            (each-cons letters_of a (b ∷ d ∷ [])
            ∙ ap (λ (l : List ℕ). letters_of a ++ l) (each-cons letters_of b (d ∷ []) ∙ ap (λ (l : List ℕ). letters_of b ++ l) (each-one letters_of d)));
      }

  -- what there is room for, and what is written
  pub room-one-part : {a : ℕ} {out : List ℕ} {at : ℕ} → p ≡ One a → Room out at (simple_of c) → Room out at (letters_of a)
  room-one-part e h = rw (simple-one e) at h

  pub wrote-one-part : {a : ℕ} {out out' : List ℕ} {at r : ℕ} → p ≡ One a → Wrote out at (letters_of a) r out' → Wrote out at (simple_of c) r out'
  wrote-one-part e w = rw (simple-one e) w

pub two-rows : (a b : ℕ) → Piece (letters_of a ++ letters_of b) (letters_of a) (letters_of b)
two-rows a b = record { eq = refl }

-- of one that is no syllable, and of one whose one step is itself
simple-other : (c : ℕ) → is_syllable c ≡ false → simple_of c ≡ letters_of c
simple-other c h = simple-one c {p = One c} (sym (parts-other 2 c h)) refl

pub simple-itself : (c : ℕ) → Closed c → simple_of c ≡ letters_of c
simple-itself c h = simple-one c {p = One c} (sym (parts-one 2 c {p = OnePart c} (sym h) refl)) refl

-- ---- how long it is of one code point

-- of a syllable at most 2, 3 and 2 letters, of any other at most 3
pub simple-of-most : (c : ℕ) → length (simple_of c) ≤ 7
unfolding simple_of each
simple-of-most c = by-step c lv lvt (λ h. rw (simple-other c h) (omega (arith, letters-most c)))
  where
    first : is_syllable c ≡ true → length (letters_of (0x1100 + initial_of c)) ≤ 2
    first h =
        let m = syllable-most c h in
        initial-most (0x1100 + initial_of c) (sym (class-between 0x1100 0x1112 tt (omega arith) (omega arith)))

    last : is_syllable c ≡ true → (final_of c ≡ 0 → ⊥) → length (letters_of (0x11A7 + final_of c)) ≤ 2
    last h e = final-most (0x11A7 + final_of c) (sym (class-between 0x11A8 0x11C2 tt (omega arith) (omega arith)))

    lv : is_syllable c ≡ true → final_of c ≡ 0 → length (each letters_of (parts_of c)) ≤ 7
    lv h e = rw (parts-lv 0 c h e) (simp length-append (omega (arith, first h, letters-most (0x1161 + peak_of c))))

    lvt : is_syllable c ≡ true → (final_of c ≡ 0 → ⊥) → length (each letters_of (parts_of c)) ≤ 7
    lvt h e = rw (parts-lvt 0 c h e) (simp length-append (omega (arith, first h, letters-most (0x1161 + peak_of c), last h e)))

-- so seven places have room for it
pub simple-room : (out : List ℕ) (c : ℕ) → length out ≡ 7 → Room out 0 (simple_of c)
simple-room out c e = record { fits = omega (arith, simple-of-most c) }

-- ---- a text's

-- code point by code point
pub simple-each : (x : List ℕ) → simple x ≡ each simple_of x
unfolding simple simple_of
simple-each x = each-each letters_of parts_of x

pub simple-append : (x y : List ℕ) → simple (x ++ y) ≡ simple x ++ simple y
unfolding simple
simple-append x y = ap (each letters_of) (full-append x y) ∙ each_append letters_of (full_parts x) (full_parts y)

-- at most 7n, at least n
pub simple-most : (x : List ℕ) → length (simple x) ≤ 7 * length x
simple-most x = rw (simple-each x) (length-each-most simple_of 7 simple-of-most x)

pub simple-least : (x : List ℕ) → length x ≤ length (simple x)
unfolding simple
simple-least x = omega (arith, full-least x, length-each-least letters_of letters-least (full_parts x))

-- what the loops over a text ask
pub simple-piece : (text : List ℕ) (i : ℕ) → i < length text
    → Piece (each simple_of (drop i text)) (simple_of (get_or text i 0)) (each simple_of (drop (i + 1) text))
simple-piece text i h = each-piece simple_of 0 text i h

pub simple-end : (text : List ℕ) (i : ℕ) → length text ≤ i → each simple_of (drop i text) ≡ []
simple-end text i h = each-end simple_of text i h

-- ---- nothing changes any more

-- EACH CODE OF A SIMPLE FORM IS ALONE
pub letters-of-simple : (x : List ℕ) → All (λ l. letters_of l ≡ l ∷ []) (simple x)
unfolding simple
letters-of-simple x = all-each letters_of letters-alone (full_parts x)

-- and is no syllable: its one step is itself
pub simple-closed : (x : List ℕ) → All Closed (simple x)
unfolding simple
simple-closed x = all-each-of letters_of (letters-all Closed (λ l h k. step_other l (syllable-below l (omega arith)))) (full-closed x)

pub closed_parts : {x : List ℕ} → All Closed x → full_parts x ≡ x
closed_parts p = each-alone parts_of (all_map (λ c h. parts-one 2 c {p = OnePart c} (sym h) refl) p)

pub simple-simple : (x : List ℕ) → simple (simple x) ≡ simple x
unfolding simple
simple-simple x = ap (each letters_of) (closed_parts (simple-closed x)) ∙ each-alone letters_of (letters-of-simple x)

-- the simple form of one step, of the full parts, and of the joined text is that of the text
pub simple-of-step : (x : List ℕ) → simple (each one_step x) ≡ simple x
unfolding simple
simple-of-step x = ap (each letters_of) (full-of-step x)

pub simple-of-parts : (x : List ℕ) → simple (full_parts x) ≡ simple x
unfolding simple
simple-of-parts x = ap (each letters_of) (full-full x)

pub simple-of-joined : (x : List ℕ) → simple (join x) ≡ simple x
unfolding simple
simple-of-joined x = ap (each letters_of) (parts_join x)

-- so the simple letters and the other characters, and their numbers, are the same before and after
-- each
pub record SameCharacters (x y : List ℕ) : Type 0 where
  pub letters : simple_letters x ≡ simple_letters y
  pub others : other_characters x ≡ other_characters y
  pub letters-counted : length (simple_letters x) ≡ length (simple_letters y)
  pub others-counted : length (other_characters x) ≡ length (other_characters y)

same-characters : (x y : List ℕ) → simple x ≡ simple y → SameCharacters x y
same-characters x y e = record { letters = rw e; others = rw e; letters-counted = rw e; others-counted = rw e }

pub characters-of-step : (x : List ℕ) → SameCharacters (each one_step x) x
characters-of-step x = same-characters (each one_step x) x (simple-of-step x)

pub characters-of-parts : (x : List ℕ) → SameCharacters (full_parts x) x
characters-of-parts x = same-characters (full_parts x) x (simple-of-parts x)

pub characters-of-joined : (x : List ℕ) → SameCharacters (join x) x
characters-of-joined x = same-characters (join x) x (simple-of-joined x)

-- the simple form of a text with no bad code point has none
pub simple-good : {x : List ℕ} → All (λ c. bad c ≡ false) x → All (λ c. bad c ≡ false) (simple x)
unfolding simple
simple-good p = all-each-of letters_of letters-good (full-good p)
