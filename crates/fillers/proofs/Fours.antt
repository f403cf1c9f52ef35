-- Laws of four code points. In order: they are A GROUP EXACTLY IF ALL FOUR FIT, d a filler, a an
-- initial, b a peak and c a final or a filler (`group-exactly`), and else none (`group-otherwise`);
-- with any other filler in it, it is no group; a group makes a syllable (`group-syllable`); the
-- group at an index of a text, as the code finds it.
use mathlib.Core.Path.{◌≡◌, refl, sym, ◌∙◌, ap}
use mathlib.Core.Bool.{Bool, true, false, cond}
use mathlib.Core.Logic.{◌↔◌}
use mathlib.Core.Option.{Option, none, some, none-ne-some}
use mathlib.Core.List.{List, [], ◌∷◌}
use Prim.Native.Nat.{ℕ, ◌+◌, ◌-◌, ◌≤◌, ◌<◌}
use native.Mathlib.Omega.{arith}
use lib.Dec.{eqb}
use lib.ListN.{length, get_or, drop, length-drop}
use borrow.Author.Tests.{eqb-true, eqb-false}
use Rattle.std.specs.Prelude.{Some, None}
use Rattle.laws.proofs.Lists.{four-at}
use Rattle.letters.specs.Syllables.{is_syllable}
use Rattle.letters.proofs.Steps.{syllable, syllable-made}
use Rattle.fillers.specs.Groups.{as_initial, as_peak, as_final, meaning_of, group_of}
use Rattle.fillers.specs.Inner.{group_at, syllable_in}
use Rattle.fillers.proofs.Letters.{initial-no-filler, peak-no-filler, initial-below, peak-below, final-below, below-some}

-- ---- a group exactly when all four fit

-- d, a, b, c are a group and s is its syllable, in document 01's words
pub record Group (d a b c s : ℕ) : Type 0 where
  pub filler : d ≡ 0x3164
  pub i : ℕ
  pub p : ℕ
  pub f : ℕ
  pub first : as_initial a ≡ some i
  pub peak : as_peak b ≡ some p
  pub last : as_final c ≡ some f
  pub makes : s ≡ syllable i p f

-- the meaning of four code points with what it says of them
pub data Meant (d a b c : ℕ) : Option (List ℕ) → Type 0 where
  turns : {s : ℕ} → Group d a b c s → Meant d a b c (some (s ∷ []))
  stays : ((s : ℕ) → Group d a b c s → ⊥) → Meant d a b c none

none-there : {o : Option ℕ} {k : ℕ} → o ≡ none → o ≡ some k → ⊥
none-there e q = none-ne-some _ (sym e ∙ q)

module _ (d a b c : ℕ) where
  letters-meant : d ≡ 0x3164 → (i p f : Option ℕ) → as_initial a ≡ i → as_peak b ≡ p → as_final c ≡ f → Meant d a b c (meaning_of i p f)
  letters-meant e none p f q r s = stays (λ m g. none-there q g.first)
  letters-meant e (some i) none f q r s = stays (λ m g. none-there r g.peak)
  letters-meant e (some i) (some p) none q r s = stays (λ m g. none-there s g.last)
  letters-meant e (some i) (some p) (some f) q r s =
      turns (record { filler = e; i = i; p = p; f = f; first = q; peak = r; last = s; makes = refl })

  pub group-meant : Meant d a b c (group_of d a b c)
  unfolding group_of
  group-meant = by (eqb d 0x3164) refl
    where
      by : (filler : Bool) → eqb d 0x3164 ≡ filler → Meant d a b c (cond filler (meaning_of (as_initial a) (as_peak b) (as_final c)) none)
      by true e = letters-meant (eqb-true d 0x3164 e) (as_initial a) (as_peak b) (as_final c) refl refl refl
      by false e = stays (λ s g. eqb-false d 0x3164 e g.filler)

  group-only : {s : ℕ} → Meant d a b c (some (s ∷ [])) → Group d a b c s
  group-only (turns g) = g

  group-if : {s : ℕ} → Group d a b c s → group_of d a b c ≡ some (s ∷ [])
  unfolding group_of
  group-if g = rw (g.filler, g.first, g.peak, g.last, g.makes)

  pub group-exactly : (s : ℕ) → (group_of d a b c ≡ some (s ∷ [])) ↔ Group d a b c s
  group-exactly s = ((λ e. group-only (rw e at group-meant)), group-if)

  none_only : Meant d a b c none → (s : ℕ) → Group d a b c s → ⊥
  none_only (stays n) = n

  none-if : (o : Option (List ℕ)) → Meant d a b c o → ((s : ℕ) → Group d a b c s → ⊥) → o ≡ none
  none-if _ (turns {s} g) n = absurd (n s g)
  none-if _ (stays m) n = refl

  pub group-otherwise : (group_of d a b c ≡ none) ↔ ((s : ℕ) → Group d a b c s → ⊥)
  group-otherwise = ((λ e. none_only (rw e at group-meant)), none-if (group_of d a b c) group-meant)

-- ---- with any other filler in it, it is no group

pub no-group-initial : (d b c : ℕ) → group_of d 0x3164 b c ≡ none
no-group-initial d b c = (group-otherwise d 0x3164 b c).1 (λ s g. none-there initial-no-filler g.first)

pub no-group-peak : (d a c : ℕ) → group_of d a 0x3164 c ≡ none
no-group-peak d a c = (group-otherwise d a 0x3164 c).1 (λ s g. none-there peak-no-filler g.peak)

-- ---- a group makes a syllable

pub made-syllable : {d a b c s : ℕ} → Group d a b c s → is_syllable s ≡ true
made-syllable {a = a} {b = b} {c = c} g =
    rw g.makes
    (syllable-made g.i g.p g.f
    (below-some 19 (as_initial a) (initial-below a) g.first)
    (below-some 21 (as_peak b) (peak-below b) g.peak)
    (below-some 28 (as_final c) (final-below c) g.last))

pub group-syllable : (d a b c s : ℕ) → group_of d a b c ≡ some (s ∷ []) → is_syllable s ≡ true
group-syllable d a b c s e = made-syllable ((group-exactly d a b c s).0 e)

-- ---- the group at an index of a text: as the code finds it, number by number

few : (x : List ℕ) → length x < 4 → group_at x ≡ none
few [] h = refl
few (d ∷ []) h = refl
few (d ∷ a ∷ []) h = refl
few (d ∷ a ∷ b ∷ []) h = refl
few (d ∷ a ∷ b ∷ c ∷ x) h = absurd (omega arith)

module _ (text : List ℕ) (at : ℕ) where
  pub short-here : length text - at < 4 → None ≡ syllable_in (group_at (drop at text))
  short-here h = sym (ap syllable_in (few (drop at text) (simp length-drop h)))

  -- the four from the index on
  abbrev GroupHere : ℕ → Type 0
  GroupHere s = Group (get_or text at 0) (get_or text (at + 1) 0) (get_or text (at + 2) 0) (get_or text (at + 3) 0) s

  module _ (long : 4 ≤ length text - at) where
    pub no-group-here : ((s : ℕ) → GroupHere s → ⊥) → None ≡ syllable_in (group_at (drop at text))
    no-group-here n = sym (ap syllable_in (ap group_at (four-at 0 text at (omega arith)) ∙ (group-otherwise _ _ _ _).1 n))

    pub group-here : {s : ℕ} → GroupHere s → Some s ≡ syllable_in (group_at (drop at text))
    group-here {s} g = sym (ap syllable_in (ap group_at (four-at 0 text at (omega arith)) ∙ (group-exactly _ _ _ _ s).1 g))
