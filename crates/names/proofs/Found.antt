-- Which syllable has a name, and the round trips of the two calls. It has: the first of n
-- syllables that has the name (`from_is`, `from-none`); `named` finds the syllable that has the
-- name, and nothing if none has it (`named_some`, `named-is`, `named_none`, `none_named`); an
-- answer is known by its verdict, so each contract admits one result (`reads-name-unique`,
-- `names-unique`); which answer reading gives (`reads-checked`, `reads-found`,
-- `reads_nothing`), and 5 IS REFUSED EXACTLY IF NO SYLLABLE HAS THE NAME (`read-refuses`,
-- `read-refused`); THE NAME OF A SYLLABLE IS READ AS THE SYLLABLE (`read_named`), AND A NAME THAT
-- IS READ IS THE SYLLABLE'S (`name-read`).
use mathlib.Core.Path.{◌≡◌, refl, sym, ◌∙◌, ap}
use mathlib.Core.Bool.{Bool, true, false, cond}
use mathlib.Core.Option.{Option, none, some, none-ne-some}
use mathlib.Core.List.{List, [], ◌∷◌}
use Prim.Native.Nat.{ℕ, zero, suc, ◌+◌, ◌≤◌, ◌<◌}
use native.Mathlib.Omega.{arith}
use lib.Dec.{eqb}
use lib.ListN.{length, take}
use borrow.Author.Tests.{eqb-true, eqb-false}
use Rattle.std.specs.Prelude.{Some, None, Result, Ok, Err}
use Rattle.laws.specs.Strings.{same}
use Rattle.laws.specs.Writing.{front}
use Rattle.laws.proofs.Bools.{test}
use Rattle.laws.proofs.Strings.{same_true, same_false}
use Rattle.answers.specs.Checks.{Check, passes, refuses, in_order, takes_bytes}
use Rattle.answers.specs.Verdicts.{done, verdict}
use Rattle.answers.specs.Answers.{checked, answered}
use Rattle.answers.specs.declared.refusal.Refusal.{Refusal}
use Rattle.answers.specs.declared.refusal.Refusal.TheVariants.{NoName}
use Rattle.answers.proofs.Answers.{answered-injective}
use Rattle.answers.proofs.Orders.{passes-refuses}
use Rattle.answers.proofs.Checks.{units-taken}
use Rattle.answers.proofs.Verdicts.{done-not-refused, fills-done, fills-front, fills-unique, filled-whole}
use Rattle.letters.specs.Syllables.{is_syllable, initial_of, peak_of, final_of}
use Rattle.letters.proofs.Steps.{syllable, syllable-yes, syllable-least, syllable-most, syllable-made, initial-below, peak-below, final-below, initial-determined, peak-determined, final-determined}
use Rattle.names.specs.Names.{name_by, name_of, named_from, named}
use Rattle.names.specs.Naming.{no_syllable, Names, no_name, syllable_or, ReadsName}
use Rattle.names.specs.Inner.{FoundIs}
use Rattle.names.specs.declared.strings.Indices.{Indices}
use Rattle.names.proofs.Unique.{names-differ}
use Rattle.names.proofs.Lengths.{syllable-name-most}
use Rattle.names.proofs.Writing.{no-syllable-refuses, no-syllable-passes}

-- ---- the first of n syllables from s on

from_is : (n s t : ℕ) (name : List ℕ) → named_from n s name ≡ some t → (s ≤ t) × (t < s + n) × (name_of t ≡ name)
unfolding named_from
from_is zero s t name e = absurd (none-ne-some _ e)
from_is (suc n) s t name e = by (same (name_of s) name) refl e (from_is n (suc s) t name)
  where
    by : (b : Bool) → same (name_of s) name ≡ b → cond b (some s) (named_from n (suc s) name) ≡ some t
        → (named_from n (suc s) name ≡ some t → (suc s ≤ t) × (t < suc s + n) × (name_of t ≡ name)) → (s ≤ t) × (t < s + suc n) × (name_of t ≡ name)
    by true q e rest =
        let same-one : s ≡ t = cc in
        (omega arith, omega arith, ap name_of (sym same-one) ∙ same_true (name_of s) name q)
    by false q e rest = let r = rest e in (omega (arith, r.0), omega (arith, r.1), r.2)

from-none : (n s t : ℕ) (name : List ℕ) → named_from n s name ≡ none → s ≤ t → t < s + n → name_of t ≡ name → ⊥
unfolding named_from
from-none zero s t name e l h q = omega arith
from-none (suc n) s t name e l h q = by (same (name_of s) name) refl e (from-none n (suc s) t name)
  where
    by : (b : Bool) → same (name_of s) name ≡ b → cond b (some s) (named_from n (suc s) name) ≡ none
        → (named_from n (suc s) name ≡ none → suc s ≤ t → t < suc s + n → name_of t ≡ name → ⊥) → ⊥
    by true r e rest = none-ne-some _ (sym e)
    by false r e rest =
        test (eqb s t) (λ k. same_false (name_of s) name r (ap name_of (eqb-true s t k) ∙ q))
        (λ k. let apart = eqb-false s t k in rest e (omega arith) (omega arith) q)

-- ---- named

-- no syllable has the name
abbrev pub Nameless : List ℕ → Type 0
Nameless name = (s : ℕ) → is_syllable s ≡ true → name_of s ≡ name → ⊥

module _ (name : List ℕ) where
  pub named-is : {s : ℕ} → named name ≡ some s → (is_syllable s ≡ true) × (name_of s ≡ name)
  unfolding named
  named-is {s} e = let h = from_is 11172 0xAC00 s name e in (syllable-yes s h.0 (omega (arith, h.1)), h.2)

  pub none_named : named name ≡ none → Nameless name
  unfolding named
  none_named e s h = from-none 11172 0xAC00 s name e (syllable-least s h) (omega (arith, syllable-most s h))

  pub named_none : Nameless name → named name ≡ none
  named_none h = by (named name) refl
    where
      by : (o : Option ℕ) → named name ≡ o → o ≡ none
      by none e = refl
      by (some s) e = absurd (h s (named-is e).0 (named-is e).1)

pub named_some : (s : ℕ) → is_syllable s ≡ true → named (name_of s) ≡ some s
named_some s h = by (named (name_of s)) refl
  where
    by : (o : Option ℕ) → named (name_of s) ≡ o → o ≡ some s
    by none e = absurd (none_named (name_of s) e s h refl)
    by (some t) e = ap some (names-differ t s (named-is (name_of s) e).0 h (named-is (name_of s) e).1)

-- ---- each contract admits one result

pub reads-name-unique : {name : List ℕ} {a b : Result ℕ Refusal} → ReadsName name a → ReadsName name b → a ≡ b
reads-name-unique f g = answered-injective _ _ (f.answers ∙ sym g.answers)

pub names-unique : {code : ℕ} {out o p : List ℕ} {a b : Result ℕ Refusal} → Names code out a o → Names code out b p → (a ≡ b) × (o ≡ p)
names-unique f g = let h = fills-unique f.fills g.fills in (answered-injective _ _ h.0, h.1)

refused-injective : {r q : Refusal} → ◌≡◌ {A = Result ℕ Refusal} (Err r) (Err q) → r ≡ q
refused-injective e = cc

syllable-not-refused : {s : ℕ} {r : Refusal} → Ok s ≡ Err r → ⊥
syllable-not-refused e = let z : ◌≡◌ {A = ℕ} 0 1 = cc in omega arith

-- ---- when each answer of reading is given

-- the syllable of I, P and F has their name
name-made : (i p f : ℕ) → i < 19 → p < 21 → f < 28 → name_of (syllable i p f) ≡ name_by i p f
name-made i p f hi hp hf = rw (initial-determined i p f hi hp hf, peak-determined i p f hi hp hf, final-determined i p f hi hp hf)

module _ {name : List ℕ} where
  -- v is what the check said
  pub reads-checked : {v : Result (Unit {0}) Refusal} {r : Refusal} → checked v ≡ takes_bytes name → v ≡ Err r → ReadsName name (Err r)
  reads-checked e q = record { answers = simp (sym e ∙ ap checked q) }

  module _ (taken : takes_bytes name ≡ passes) where
    reads-some : {s : ℕ} → named name ≡ some s → ReadsName name (Ok s)
    reads-some e = record { answers = simp (taken, e) }

    reads_none : named name ≡ none → ReadsName name (Err NoName)
    reads_none e = record { answers = simp (taken, e) }

    -- what the search found: three indices, or none
    pub reads-found : {indices : Indices} → FoundIs name (Some indices) → {s : ℕ} → s ≡ syllable indices.initial indices.peak indices.last
        → ReadsName name (Ok s)
    reads-found {indices} (h, is) q =
        let i = indices.initial in
        let p = indices.peak in
        let f = indices.last in
        rw q (reads-some
        (ap named (is ∙ sym (name-made i p f h.0 h.1 h.2)) ∙ named_some (syllable i p f) (syllable-made i p f h.0 h.1 h.2)))

    pub reads_nothing : FoundIs name None → ReadsName name (Err NoName)
    reads_nothing no_three =
        reads_none
        (named_none name (λ s t q.
        let l = syllable-least s t in
        let m = syllable-most s t in
        no_three (initial_of s) (peak_of s) (final_of s) (initial-below s l m) (peak-below s l m) (final-below s l m) (sym q)))

    -- 5 IS REFUSED EXACTLY WHERE NO SYLLABLE HAS THE NAME
    pub read-refuses : {r : Result ℕ Refusal} → Nameless name → ReadsName name r → r ≡ Err NoName
    read-refuses h f = reads-name-unique f (reads_none (named_none name h))

    pub read-refused : {r : Refusal} → ReadsName name (Err r) → (r ≡ NoName) × Nameless name
    read-refused {r} f = by (named name) refl
      where
        by : (o : Option ℕ) → named name ≡ o → (r ≡ NoName) × Nameless name
        by none e = (refused-injective (reads-name-unique f (reads_none e)), none_named name e)
        by (some s) e = absurd (syllable-not-refused (reads-name-unique (reads-some e) f))

-- ---- the round trips

-- a syllable is answered: the name is taken, and it is the syllable's
done-says : {s : ℕ} (c : Check) (o : Option ℕ) → done s ≡ verdict (in_order (c ∷ no_name o ∷ [])) (syllable_or o) → (c ≡ passes) × (o ≡ some s)
done-says passes (some t) e = (refl, cc)
done-says passes none e = absurd (done-not-refused e)
done-says (refuses number place) o e = absurd (done-not-refused e)

pub reads-syllable : {name : List ℕ} {s : ℕ} → ReadsName name (Ok s) → (takes_bytes name ≡ passes) × (named name ≡ some s)
reads-syllable {name} f = done-says (takes_bytes name) (named name) f.answers

-- naming's check passes a syllable, and nothing else
pub passes-syllable : (s : ℕ) → no_syllable s ≡ passes → is_syllable s ≡ true
passes-syllable s e = test (is_syllable s) (λ h. h) (λ h. absurd (passes-refuses (sym e ∙ no-syllable-refuses s h)))

-- a syllable is named if there is room
pub names-whole : (s : ℕ) {out : List ℕ} → is_syllable s ≡ true → length (name_of s) ≤ length out
    → Names s out (Ok (length (name_of s))) (front (name_of s) out)
names-whole s h room = record { fills = filled-whole (no-syllable-passes s h) room refl }

-- THE NAME OF A SYLLABLE IS READ AS THE SYLLABLE
pub name-reads : (s : ℕ) → is_syllable s ≡ true → ReadsName (name_of s) (Ok s)
name-reads s is = reads-some (units-taken (name_of s) (omega (arith, syllable-name-most s))) (named_some s is)

pub read_named : {s k : ℕ} {out out' : List ℕ} {r : Result ℕ Refusal} → Names s out (Ok k) out' → ReadsName (take k out') r → r ≡ Ok s
read_named {s} f g =
    let h = fills-done f.fills in
    reads-name-unique (rw (fills-front f.fills h.1) at g) (name-reads s (passes-syllable s h.0))

-- A NAME THAT IS READ IS THE SYLLABLE'S
pub name-read : {name out out' : List ℕ} {s : ℕ} {r : Result ℕ Refusal} → ReadsName name (Ok s) → length name ≤ length out → Names s out r out'
    → (r ≡ Ok (length name)) × (out' ≡ front name out)
name-read {name} {out} {s = s} f room g =
    let h = named-is name (reads-syllable f).1 in
    let both = names-unique g (names-whole s h.0 (rw h.1 room)) in
    (both.0 ∙ ap (λ (l : List ℕ). Ok (length l)) h.1, both.1 ∙ ap (λ (l : List ℕ). front l out) h.1)
