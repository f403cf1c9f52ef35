-- Laws of the full parts: a code point's parts in closed form; that nothing changes any more; their
-- number; and the laws of a text's, a section each.
use mathlib.Core.Path.{◌≡◌, refl, sym, ◌∙◌, ap}
use mathlib.Core.Bool.{true, false}
use mathlib.Core.List.{List, [], ◌∷◌, ◌++◌}
use Prim.Native.Nat.{ℕ, zero, suc, ◌+◌, ◌-◌, ◌*◌, ◌≤◌, ◌<◌}
use native.Mathlib.Numerals.{sub-one}
use native.Mathlib.Omega.{arith}
use lib.ListN.{length, get_or, drop, length-append}
use Rattle.std.specs.List.{sum_by}
use Rattle.std.proofs.lemmas.List.Recursion.{is_sum_by}
use Rattle.laws.specs.Lists.{each, All, none, also}
use Rattle.laws.proofs.Lists.{one-not-two, each-end, each-one, each-cons, each_append, each-each, each-alone, each_same, all-each, all-each-of, all_map, length-each-least, length-each-most}
use Rattle.laws.proofs.Filling.{Piece, each-piece}
use Rattle.letters.specs.Syllables.{is_syllable, index_of, initial_of, peak_of, final_of, one_step, parts_to, parts_of, full_parts}
use Rattle.answers.specs.Checks.{bad}
use Rattle.answers.proofs.Checks.{good-low}
use Rattle.letters.specs.Answers.{codes_in}
use Rattle.letters.specs.declared.step.Parts.{Parts}
use Rattle.letters.specs.declared.step.Parts.TheVariants.{One, Two}
use Rattle.letters.proofs.Steps.{syllable-yes, syllable-below, syllable-least, syllable-most, step-lv, step-lvt, step_other, by-step}

-- ---- down to a depth: what a function that calls itself asks

pub parts_none : (d c : ℕ) → d ≡ 0 → parts_to d c ≡ c ∷ []
unfolding parts_to
parts_none d c e = simp e

parts_more : (d c : ℕ) → parts_to (suc d) c ≡ each (parts_to d) (one_step c)
unfolding parts_to
parts_more d c = refl

pub parts-other : (d c : ℕ) → is_syllable c ≡ false → parts_to d c ≡ c ∷ []
unfolding parts_to
parts-other zero c h = refl
parts-other (suc d) c h = rw (step_other c h, each-one) (parts-other d c h)

-- there is one at least
step-some : (c : ℕ) → 1 ≤ length (one_step c)
step-some c =
    by-step c (λ h e. rw (step-lv c h e) (omega arith)) (λ h e. rw (step-lvt c h e) (omega arith)) (λ h. rw (step_other c h) (omega arith))

pub parts-some : (d c : ℕ) → 1 ≤ length (parts_to d c)
unfolding parts_to
parts-some zero c = omega arith
parts-some (suc d) c = omega (arith, step-some c, length-each-least (parts_to d) (parts-some d) (one_step c))

-- one part, and two: p is what the code's one step answered
pub parts-one : (d c : ℕ) {p : Parts} {a : ℕ} → codes_in p ≡ one_step c → p ≡ One a → parts_to d c ≡ a ∷ []
parts-one d c {p} {a} q r =
    let e : a ∷ [] ≡ one_step c = rw r at q in
    by-step c (λ h f. absurd (one-not-two (e ∙ step-lv c h f))) (λ h f. absurd (one-not-two (e ∙ step-lvt c h f)))
    (λ h. parts-other d c h ∙ sym (step_other c h) ∙ sym e)

pub parts-two : (d c : ℕ) {p : Parts} {a b : ℕ} → (d ≡ 0 → ⊥) → codes_in p ≡ one_step c → p ≡ Two a b
    → Piece (parts_to d c) (parts_to (d - 1) a) (parts_to (d - 1) b)
unfolding parts_to
parts-two zero c n q r = absurd (n refl)
parts-two (suc d) c {p} {a} {b} n q r =
    let e : a ∷ b ∷ [] ≡ one_step c = rw r at q in
    record { eq = rw (← e, sub-one, each-cons, each-one) }

-- ---- a code point's full parts, in closed form

lv-parts : (d s : ℕ) → is_syllable s ≡ true → final_of s ≡ 0 → parts_to (suc d) s ≡ (0x1100 + initial_of s) ∷ (0x1161 + peak_of s) ∷ []
unfolding parts_to
lv-parts d s h e =
    let m = syllable-most s h in
    rw (step-lv s h e, each-cons, each-one, parts-other d (0x1100 + initial_of s) (syllable-below _ (omega arith)), parts-other d (0x1161 + peak_of s) (syllable-below _ (omega arith)))

lvt-parts : (d s : ℕ) → is_syllable s ≡ true → (final_of s ≡ 0 → ⊥)
    → parts_to (suc (suc d)) s ≡ (0x1100 + initial_of s) ∷ (0x1161 + peak_of s) ∷ (0x11A7 + final_of s) ∷ []
lvt-parts d s h e =
    let l = syllable-least s h in
    let m = syllable-most s h in
    let lv = 0xAC00 + (index_of s - final_of s) in
    let one = lv-parts d lv (syllable-yes lv (omega arith) (omega arith)) (omega arith) in
    let two = parts-other (suc d) (0x11A7 + final_of s) (syllable-below _ (omega arith)) in
    let i : 0x1100 + initial_of lv ≡ 0x1100 + initial_of s = omega arith in
    let p : 0x1161 + peak_of lv ≡ 0x1161 + peak_of s = omega arith in
    rw (parts_more (suc d) s, step-lvt s h e, each-cons, each-one, one, two, i, p)

-- the parts of a code point at any depth from 2 on: two letters, or three, or itself
module _ (d s : ℕ) where
  pub parts-lv : is_syllable s ≡ true → final_of s ≡ 0 → parts_to (suc (suc d)) s ≡ (0x1100 + initial_of s) ∷ (0x1161 + peak_of s) ∷ []
  parts-lv h e = lv-parts (suc d) s h e

  pub parts-lvt : is_syllable s ≡ true → (final_of s ≡ 0 → ⊥)
      → parts_to (suc (suc d)) s ≡ (0x1100 + initial_of s) ∷ (0x1161 + peak_of s) ∷ (0x11A7 + final_of s) ∷ []
  parts-lvt h e = lvt-parts d s h e

-- what holds of every number below the syllables, and of a code point that is none, holds of its
-- parts
parts_all : {P : ℕ → Type 0} → ((p : ℕ) → p < 0xAC00 → P p) → (c : ℕ) → (is_syllable c ≡ false → P c) → All P (parts_of c)
parts_all low c itself =
    by-step c
    (λ h e. let m = syllable-most c h in rw (parts-lv 0 c h e) (also (low (0x1100 + initial_of c) (omega arith)) (also (low (0x1161 + peak_of c) (omega arith)) none)))
    (λ h e.
    let m = syllable-most c h in
    rw (parts-lvt 0 c h e)
    (also (low (0x1100 + initial_of c) (omega arith)) (also (low (0x1161 + peak_of c) (omega arith)) (also (low (0x11A7 + final_of c) (omega arith)) none))))
    (λ h. rw (parts-other 2 c h) (also (itself h) none))

-- ---- nothing changes any more

-- a code point whose one step is itself
abbrev pub Closed : ℕ → Type 0
Closed c = one_step c ≡ c ∷ []

-- EVERY PART'S ONE STEP IS ITSELF
pub parts-closed : (c : ℕ) → All Closed (parts_of c)
parts-closed c = parts_all (λ p h. step_other p (syllable-below p h)) c (step_other c)

-- so a greater depth gives the same
pub parts-deeper : (d c : ℕ) → parts_to (suc (suc d)) c ≡ parts_of c
parts-deeper d c =
    by-step c (λ h e. parts-lv d c h e ∙ sym (parts-lv 0 c h e)) (λ h e. parts-lvt d c h e ∙ sym (parts-lvt 0 c h e))
    (λ h. parts-other (suc (suc d)) c h ∙ sym (parts-other 2 c h))

-- ---- their number

pub parts-least : (c : ℕ) → 1 ≤ length (parts_of c)
parts-least c = parts-some 2 c

pub parts-most : (c : ℕ) → length (parts_of c) ≤ 3
parts-most c =
    by-step c (λ h e. rw (parts-lv 0 c h e) (omega arith)) (λ h e. rw (parts-lvt 0 c h e) (omega arith)) (λ h. rw (parts-other 2 c h) (omega arith))

-- ---- a text's full parts

pub full-append : (x y : List ℕ) → full_parts (x ++ y) ≡ full_parts x ++ full_parts y
full-append x y = each_append parts_of x y

-- a text with no syllable is its own full parts
pub full-none : {x : List ℕ} → All (λ c. is_syllable c ≡ false) x → full_parts x ≡ x
full-none p = each-alone parts_of (all_map (λ c h. parts-other 2 c h) p)

-- nothing changes any more in a text's full parts: neither by one step nor by taking them apart
-- again
pub full-closed : (x : List ℕ) → All Closed (full_parts x)
full-closed x = all-each parts_of parts-closed x

closed_parts : (d c : ℕ) → Closed c → parts_to d c ≡ c ∷ []
closed_parts d c h = parts-one d c {p = One c} (sym h) refl

pub full-step : (x : List ℕ) → each one_step (full_parts x) ≡ full_parts x
full-step x = each-alone one_step (full-closed x)

pub full-full : (x : List ℕ) → full_parts (full_parts x) ≡ full_parts x
full-full x = each-alone parts_of (all_map (λ c h. closed_parts 2 c h) (full-closed x))

-- the full parts of one step are the full parts
pub full-of-step : (x : List ℕ) → full_parts (each one_step x) ≡ full_parts x
full-of-step x = each-each parts_of one_step x ∙ each_same (λ c. each parts_of (one_step c)) parts_of (λ c. sym (parts_more 2 c) ∙ parts-deeper 1 c) x

-- the parts of good code points are good
parts-good : (c : ℕ) → bad c ≡ false → All (λ p. bad p ≡ false) (parts_of c)
parts-good c g = parts_all (λ p h. good-low p (omega arith)) c (λ h. g)

pub full-good : {x : List ℕ} → All (λ c. bad c ≡ false) x → All (λ c. bad c ≡ false) (full_parts x)
full-good p = all-each-of parts_of parts-good p

-- at most 3n, at least n
pub full-most : (x : List ℕ) → length (full_parts x) ≤ 3 * length x
full-most x = length-each-most parts_of 3 parts-most x

pub full-least : (x : List ℕ) → length x ≤ length (full_parts x)
full-least x = length-each-least parts_of parts-least x

-- each code point's parts, added up
pub full-sum : (x : List ℕ) → length (full_parts x) ≡ sum_by (λ c. length (parts_of c)) x
unfolding each
full-sum x = is_sum_by (λ y. length (full_parts y)) (λ c. length (parts_of c)) refl (λ c y. length-append (parts_of c) (full_parts y)) x

-- ---- what the loops over a text ask

pub parts-piece : (text : List ℕ) (i : ℕ) → i < length text → Piece (each parts_of (drop i text)) (parts_of (get_or text i 0)) (each parts_of (drop (i + 1) text))
parts-piece text i h = each-piece parts_of 0 text i h

pub parts-end : (text : List ℕ) (i : ℕ) → length text ≤ i → each parts_of (drop i text) ≡ []
parts-end text i h = each-end parts_of text i h

-- the number of a code point's parts, as the code counts them
pub count-lv : (c : ℕ) → 0xAC00 ≤ c → c ≤ 0xD7A3 → final_of c ≡ 0 → 2 ≡ length (parts_of c)
count-lv c l m e = sym (ap length (parts-lv 0 c (syllable-yes c l m) e))

pub count-lvt : (c : ℕ) → 0xAC00 ≤ c → c ≤ 0xD7A3 → (final_of c ≡ 0 → ⊥) → 3 ≡ length (parts_of c)
count-lvt c l m e = sym (ap length (parts-lvt 0 c (syllable-yes c l m) e))

pub count-other : (c : ℕ) → is_syllable c ≡ false → 1 ≡ length (parts_of c)
count-other c h = sym (ap length (parts-other 2 c h))
