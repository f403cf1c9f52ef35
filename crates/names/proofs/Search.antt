-- What the search of a name compares, and what it has passed over. In order: how what is left of a
-- name goes on with a string (`starts-begins`), and whether a string fits (`followed-not`,
-- `followed-by`); EVERY PEAK BEGINS WITH A VOWEL LETTER AND NO FINAL DOES (`peak-first`,
-- `final-first`), so no name is lost where the letter after a string does not fit; what the searches
-- have not found (`NoFinal`, `NoPeak`), and what they find (`peak-there`, `initial-there`,
-- `prefix-there`). Each law concludes what the code's next turn, or its return, asks.
use mathlib.Core.Path.{◌≡◌, refl, sym, ◌∙◌, ap}
use mathlib.Core.Bool.{Bool, true, false, beq, true≢false}
use mathlib.Core.List.{List, [], ◌∷◌, ◌++◌}
use Prim.Native.Nat.{ℕ, ◌-◌, ◌<◌}
use denote.Bor.{Bor}
use lib.Pointwise.{pointwise}
use Rattle.std.specs.Bool.{then_some}
use Rattle.std.specs.Prelude.{MatchOption, Some, None}
use native.Mathlib.Omega.{arith}
use lib.Dec.{eqb}
use lib.ListN.{length, get_or, take, drop, length-drop}
use lib.Seq.{take_all, drop-append_seam}
use borrow.Author.Tests.{eqb-true, eqb-false, eq-eqb, ne_eqb}
use Rattle.laws.specs.Lists.{All, also}
use Rattle.laws.specs.Strings.{same, begins, picked}
use Rattle.laws.proofs.Bools.{test, and_left}
use Rattle.laws.proofs.Lists.{all-at}
use Rattle.laws.proofs.Strings.{same_true, same_false, same-begins, same-other-length, begins-append, begins-after, begins-false}
use Rattle.names.specs.Names.{initials, peaks, finals, prefix, name_by}
use Rattle.names.specs.Inner.{FinalIs, PeakIs, FoundIs, vowel, vowel_first, followed}
use Rattle.names.proofs.Unique.{name-splits}

-- ---- how what is left of a name goes on with a string, as the code's test says it

eqb_swap : (a b : ℕ) → eqb a b ≡ eqb b a
eqb_swap a b = test (eqb b a) (λ e. eq-eqb a b (sym (eqb-true b a e)) ∙ sym e) (λ e. ne_eqb a b (λ q. eqb-false b a e (sym q)) ∙ sym e)

starts-begins : (part rest : List ℕ) → pointwise eqb (take (length part) rest) part ≡ begins part rest
starts-begins [] rest = refl
starts-begins (a ∷ part) [] = refl
starts-begins (a ∷ part) (b ∷ rest) = simp (eqb_swap b a, starts-begins part rest)

-- what is left of a text from an index on, as the code lends it
abbrev lent : ℕ → List ℕ → List ℕ
lent at text = take (length text - at) (drop at text)

lent_is : (at : ℕ) (text : List ℕ) → lent at text ≡ drop at text
lent_is at text = take_all (length text - at) (drop at text) (omega (arith, length-drop at text))

-- and how it ends with it
module _ (part rest : List ℕ) where
  pub ends-other : (length rest ≡ length part → ⊥) → false ≡ same part rest
  ends-other h = sym (same-other-length part rest (λ e. h (sym e)))

  pub ends_as : length rest ≡ length part → {told : Bool} → told ≡ begins part rest → told ≡ same part rest
  ends_as h e = e ∙ sym (same-begins part rest (sym h))

module _ (part : List ℕ) (wanted : Bool) (rest : List ℕ) {goes : Bool} (told : goes ≡ begins part rest) where
  pub followed-not : goes ≡ false → followed part wanted rest ≡ false
  followed-not e = simp (sym told ∙ e)

  -- what is left after it, as the code lends it, is kept if the letter there is as is wanted
  pub followed-by : goes ≡ true → (left : Bor (List ℕ)) {full : Bool} → left.now ≡ lent (length part) rest
      → full ≡ vowel_first left.now
      → MatchOption (then_some (beq full wanted) left) (followed part wanted rest ≡ false) (λ l. (followed part wanted rest ≡ true) × (l.now ≡ drop (length part) rest))
  followed-by e left {full} kept is-full = by (beq full wanted) refl
    where
      after : left.now ≡ drop (length part) rest
      after = kept ∙ lent_is (length part) rest

      same-test : followed part wanted rest ≡ beq full wanted
      same-test = simp (sym told ∙ e, is-full, after)

      by : (b : Bool) → beq full wanted ≡ b
          → MatchOption (then_some b left) (followed part wanted rest ≡ false) (λ l. (followed part wanted rest ≡ true) × (l.now ≡ drop (length part) rest))
      by true q = (same-test ∙ q, after)
      by false q = same-test ∙ q

-- ---- a string that fits: the text goes on with it, and after it with a vowel letter or with none,
-- as is wanted

beq-refl : (b : Bool) → beq b b ≡ true
beq-refl true = refl
beq-refl false = refl

module _ (x : List ℕ) (wanted : Bool) where
  followed-append : (z : List ℕ) → vowel_first z ≡ wanted → followed x wanted (x ++ z) ≡ true
  followed-append z e = rw (begins-append x z, drop-append_seam x z, e) (beq-refl wanted)

  followed-false : (y : List ℕ) → followed x wanted y ≡ false → (z : List ℕ) → y ≡ x ++ z → vowel_first z ≡ wanted → ⊥
  followed-false y h z q e = true≢false (sym (followed-append z e) ∙ ap (followed x wanted) (sym q) ∙ h)

  followed-begins : (y : List ℕ) → followed x wanted y ≡ true → begins x y ≡ true
  followed-begins y h = and_left (begins x y) (beq (vowel_first (drop (length x) y)) wanted) h

full-first : (x z : List ℕ) → All (λ c. vowel c ≡ true) x → (x ≡ [] → ⊥) → vowel_first (x ++ z) ≡ true
full-first [] z all some = absurd (some refl)
full-first (c ∷ x) z (also is all) some = is

free-first : (x : List ℕ) → All (λ c. vowel c ≡ false) x → vowel_first x ≡ false
free-first [] all = refl
free-first (c ∷ x) (also is all) = is

-- every peak begins with a vowel letter, and no final does
peak-first : (p : ℕ) → p < 21 → (z : List ℕ) → vowel_first (get_or peaks p [] ++ z) ≡ true
unfolding peaks
peak-first p h z = full-first (get_or peaks p []) z (all-at [] name-splits.second-full p h) (all-at [] name-splits.second-some p h)

final-first : (f : ℕ) → f < 28 → vowel_first (get_or finals f []) ≡ false
unfolding finals
final-first f h = free-first (get_or finals f []) (all-at [] name-splits.third-free f h)

-- ---- what a search has not found: a peak and a final that are what is left of a name, and three
-- strings that are what is left after the prefix

abbrev pub NoFinal : List ℕ → ℕ → Type 0
NoFinal rest p = (f : ℕ) → f < 28 → rest ≡ get_or peaks p [] ++ get_or finals f [] → ⊥

abbrev pub NoPeak : List ℕ → ℕ → Type 0
NoPeak rest i = (p f : ℕ) → p < 21 → f < 28 → rest ≡ picked initials peaks finals i p f → ⊥

-- `part` is the string that the code took from the table, and `left` what it found after it
-- the final's string is not what is left, or it is
module _ (rest : List ℕ) (f : ℕ) {part : List ℕ} (is : part ≡ get_or finals f []) where
  pub final-miss : same part rest ≡ false → rest ≡ get_or finals f [] → ⊥
  final-miss h e = same_false part rest h (is ∙ sym e)

  pub final-there : same part rest ≡ true → rest ≡ get_or finals f []
  final-there h = sym (same_true part rest h) ∙ is

module _ (rest : List ℕ) (p : ℕ) {part : List ℕ} (is : part ≡ get_or peaks p []) where
  -- the peak's string does not fit; it fits, and what is left after it is no final
  pub peak-miss : followed part false rest ≡ false → NoFinal rest p
  peak-miss h f k e = followed-false part false rest h (get_or finals f []) (rw is e) (final-first f k)

  pub peak-no_final : {left : List ℕ} → (followed part false rest ≡ true) × (left ≡ drop (length part) rest) → FinalIs left None → NoFinal rest p
  peak-no_final (h, after) none f k e = none f k (after ∙ ap (drop (length part)) (rw is e) ∙ drop-append_seam part (get_or finals f []))

  -- it fits, and what is left after it is a final
  pub peak-there : {left : List ℕ} {f : ℕ} → (followed part false rest ≡ true) × (left ≡ drop (length part) rest) → FinalIs left (Some f)
      → rest ≡ get_or peaks p [] ++ get_or finals f []
  peak-there (h, after) there =
      begins-after part rest (followed-begins part false rest h) ∙ rw is (ap (λ (l : List ℕ). get_or peaks p [] ++ l) (sym (rw is at after) ∙ there.1))

module _ (rest : List ℕ) (i : ℕ) {part : List ℕ} (is : part ≡ get_or initials i []) where
  -- the same of the initial's string
  pub initial-miss : followed part true rest ≡ false → NoPeak rest i
  initial-miss h p f k l e =
      followed-false part true rest h (get_or peaks p [] ++ get_or finals f []) (rw is e) (peak-first p k (get_or finals f []))

  pub initial-no_peak : {left : List ℕ} → (followed part true rest ≡ true) × (left ≡ drop (length part) rest) → PeakIs left None → NoPeak rest i
  initial-no_peak (h, after) none p f k l e =
      none p f k l (after ∙ ap (drop (length part)) (rw is e) ∙ drop-append_seam part (get_or peaks p [] ++ get_or finals f []))

  pub initial-there : {left : List ℕ} {p f : ℕ} → (followed part true rest ≡ true) × (left ≡ drop (length part) rest) → PeakIs left (Some (p, f))
      → rest ≡ picked initials peaks finals i p f
  initial-there (h, after) there =
      begins-after part rest (followed-begins part true rest h) ∙ rw is (ap (λ (l : List ℕ). get_or initials i [] ++ l) (sym (rw is at after) ∙ there.2))

-- ---- and with the prefix before it: the prefix is not there; it is, and what is left after it is
-- no three strings, or three

module _ (name : List ℕ) where
  pub prefix-miss : pointwise eqb (take 16 name) prefix ≡ false → FoundIs name None
  unfolding name_by prefix
  prefix-miss h i p f hi hp hf e =
      begins-false prefix name (sym (starts-begins prefix name) ∙ h) (picked initials peaks finals i p f) e

  pub prefix-no_three : {rest : List ℕ} → rest ≡ drop 16 name → ((i : ℕ) → i < 19 → NoPeak rest i) → FoundIs name None
  unfolding name_by prefix
  prefix-no_three is none i p f hi hp hf e = none i hi p f hp hf (is ∙ ap (drop 16) e)

  pub prefix-there : {rest : List ℕ} (i p f : ℕ) → pointwise eqb (take 16 name) prefix ≡ true → rest ≡ drop 16 name → rest ≡ picked initials peaks finals i p f
      → name ≡ name_by i p f
  unfolding name_by prefix
  prefix-there i p f h is e =
      begins-after prefix name (sym (starts-begins prefix name) ∙ h) ∙ ap (λ (l : List ℕ). prefix ++ l) (sym is ∙ e)
