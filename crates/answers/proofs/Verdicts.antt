-- The ways in which a call returns, one law each: of a call that takes one code point, and of a
-- call that fills a lent buffer, for any check, elements and value; that any two results that the
-- scheme admits are equal (`fills-unique`); and what a call that is done says and leaves
-- (`fills-done`, `fills-front`).
use mathlib.Core.Path.{◌≡◌, refl, sym, ◌∙◌, ap}
use mathlib.Core.Bool.{Bool, true, false}
use mathlib.Core.List.{List, [], ◌∷◌}
use Prim.Native.Nat.{ℕ, ◌≤◌, ◌<◌}
use native.Mathlib.Omega.{arith}
use lib.ListN.{length, take, drop}
use lib.Seq.{take-append_seam}
use Rattle.laws.specs.Writing.{front, Fronts}
use Rattle.answers.specs.Checks.{Check, passes, refuses, no_room, bad, bad_code_point, takes_text}
use Rattle.answers.specs.Verdicts.{Verdict, done, refused, verdict, after, fits, Fills}
use Rattle.answers.specs.Answers.{checked, Makes}
use Rattle.std.specs.Prelude.{Result, Ok, Err}
use Rattle.answers.specs.declared.refusal.Refusal.{Refusal}
use Rattle.answers.proofs.Answers.{answered-injective}
use Rattle.answers.proofs.Orders.{order-first}
use Rattle.answers.proofs.Checks.{code-bad, code-good, no-room-refuses, no-room-passes, no-room-kept}

-- ---- a call that takes one code point: b is what the test for a bad one answered

module _ {Value : Type 0} (value : Value) (c : ℕ) {b : Bool} (tested : b ≡ bad c) where
  pub refused-code : b ≡ true → refused 2 0 ≡ verdict (bad_code_point (c ∷ [])) value
  refused-code h = simp (code-bad c (sym tested ∙ h))

  pub done-code : b ≡ false → {answer : Value} → answer ≡ value → done answer ≡ verdict (bad_code_point (c ∷ [])) value
  done-code h e = simp (code-good c (sym tested ∙ h), e)

-- ---- a call that fills a lent buffer

module _ {A Value : Type 0} {before : Check} {whole out : List A} {value : Value} where
  -- refused before room is asked for
  pub refused-before : {number place : ℕ} → before ≡ refuses number place → Fills before whole value out (refused number place) out
  refused-before e = rw e (record { answers = refl; leaves = refl })

  -- taken, but there is no room
  pub refused-room : before ≡ passes → {needed : ℕ} → needed ≡ length whole → length out < needed → Fills before whole value out (refused 3 needed) out
  refused-room e n h = rw (e, n) (record { answers = simp (no-room-refuses _ _ (rw n at h)); leaves = simp (no-room-refuses _ _ (rw n at h)) })

  -- the same, where the check of the room refuses
  pub refused-lacking : before ≡ passes → {number place : ℕ} → no_room (length out) (length whole) ≡ refuses number place
      → Fills before whole value out (refused number place) out
  refused-lacking e q = rw e (record { answers = simp q; leaves = simp q })

  -- done
  pub filled-whole : before ≡ passes → length whole ≤ length out → {out' : List A} → out' ≡ front whole out → Fills before whole value out (done value) out'
  filled-whole e h q = rw e (record { answers = simp (no-room-passes _ _ h); leaves = simp (no-room-passes _ _ h) q })

  -- any two results are equal
  pub fills-unique : {a b : Verdict Value} {o p : List A} → Fills before whole value out a o → Fills before whole value out b p → (a ≡ b) × (o ≡ p)
  fills-unique f g = (f.answers ∙ sym g.answers, f.leaves ∙ sym g.leaves)

-- what a call that is done says: its checks passed, and it answers and leaves what it should
pub done-not-refused : {Value : Type 0} {value : Value} {number place : ℕ} → done value ≡ refused number place → ⊥
done-not-refused e = let z : ◌≡◌ {A = ℕ} 0 1 = cc in omega arith

done-is : {A Value : Type 0} (check : Check) (value : Value) (whole out : List A) {answer : Value} {out' : List A} → done answer ≡ verdict check value
    → out' ≡ after check whole out → (check ≡ passes) × (answer ≡ value) × (out' ≡ front whole out)
done-is passes value whole out e q = (refl, cc, q)
done-is (refuses number place) value whole out e q = absurd (done-not-refused e)

pub fills-done : {A Value : Type 0} {before : Check} {whole out : List A} {value answer : Value} {out' : List A}
    → Fills before whole value out (done answer) out' → (before ≡ passes) × (answer ≡ value) × (out' ≡ front whole out)
fills-done {before = before} {whole = whole} {out = out} {value = value} f =
    let h = done-is (fits before whole out) value whole out f.answers f.leaves in
    (order-first before (no_room (length out) (length whole) ∷ []) h.0, h.1, h.2)

-- and the front of its buffer is what it writes
pub fills-front : {A Value : Type 0} {before : Check} {whole out : List A} {value answer : Value} {out' : List A}
    → Fills before whole value out (done answer) out' → {n : ℕ} → n ≡ length whole → take n out' ≡ whole
fills-front {whole = whole} {out = out} f e = rw (e, (fills-done f).2) (take-append_seam whole (drop (length whole) out))

-- the checks passed
pub checks-passed : {v : Result (Unit {0}) Refusal} {before : Check} → checked v ≡ before → v ≡ Ok tt → before ≡ passes
checks-passed e q = sym e ∙ ap checked q

-- ---- a call that makes of a text another:
-- the three ways in which it returns, by what the code has at each

module _ (make : List ℕ → List ℕ) {text out : List ℕ} where
  -- v is what the checks said
  pub makes-refused : {v : Result (Unit {0}) Refusal} {r : Refusal} → checked v ≡ takes_text text → v ≡ Err r → Makes make text out (Err r) out
  makes-refused e q = record { fills = refused-before (sym e ∙ ap checked q) }

  -- v is what the check of the room said
  module _ (taken : takes_text text ≡ passes) {v : Result (Unit {0}) Refusal} (found : checked v ≡ no_room (length out) (length (make text))) where
    pub makes-lacking : {r : Refusal} → v ≡ Err r → Makes make text out (Err r) out
    makes-lacking q = record { fills = refused-lacking taken (sym found ∙ ap checked q) }

    pub makes-done : v ≡ Ok tt → {k : ℕ} {out' : List ℕ} → Fronts (make text) out k out' → Makes make text out (Ok k) out'
    makes-done e w =
        record { fills = rw w.size (filled-whole taken (no-room-kept (length out) (length (make text)) (checks-passed found e)) w.holds) }

-- any two results are equal; and so are those of two texts that pass the same checks and of which
-- the same is made
pub makes-same : (make : List ℕ → List ℕ) {x y : List ℕ} (out : List ℕ) → takes_text x ≡ takes_text y → make x ≡ make y → {r s : Result ℕ Refusal} {o p : List ℕ}
    → Makes make x out r o → Makes make y out s p → (r ≡ s) × (o ≡ p)
makes-same make out e q f g =
    let h = fills-unique (rw (e, q) at f.fills) g.fills in
    (answered-injective _ _ h.0, h.1)

pub makes-unique : (make : List ℕ → List ℕ) (text out : List ℕ) {r s : Result ℕ Refusal} {o p : List ℕ} → Makes make text out r o → Makes make text out s p
    → (r ≡ s) × (o ≡ p)
makes-unique make text out f g = makes-same make out refl refl f g
