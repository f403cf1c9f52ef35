-- The general laws on which demand 1 rests: a call that answers by its checks in order, and leaves
-- its buffer by them, keeps the demand; and the demand leaves it no choice.
--
-- In order: what is left by a check (`kept`, `after_kept`); FROM THE CONTRACT TO THE DEMAND
-- (`demanded`): of a call that is lent nothing (`answered`, `answered-one`), that fills a lent
-- buffer (`filled-demanded`, `filled-alone`); THE DEMAND ADMITS ONE RESULT (`results_same`,
-- `results-one`).
use mathlib.Core.Path.{◌≡◌, refl, sym, ◌∙◌}
use mathlib.Core.List.{List, [], ◌∷◌, ◌++◌}
use Prim.Native.Nat.{ℕ}
use lib.ListN.{length}
use Rattle.laws.specs.Writing.{front}
use Rattle.answers.specs.Checks.{Check, passes, refuses, in_order, no_room}
use Rattle.answers.specs.Verdicts.{Verdict, verdict, after, fits, Fills}
use Rattle.answers.proofs.Verdicts.{done-not-refused}
use Rattle.answers.proofs.Orders.{order-one, order-flat}
use Rattle.demands.specs.Demand1.{Demand1}

-- ---- what is left by a check: the buffer filled where it passes, and as it was where it refuses

abbrev pub kept : {A : Type 0} → Check → List A → List A → List A
kept passes lent filled = filled
kept (refuses number place) lent filled = lent

module _ {A : Type 0} where
  pub after_kept : (check : Check) (whole out : List A) → after check whole out ≡ kept check out (front whole out)
  after_kept passes whole out = refl
  after_kept (refuses number place) whole out = refl

-- ---- FROM THE CONTRACT TO THE DEMAND

module _ {Value A : Type 0} {value : Value} {lent filled : List A} {answer : Verdict Value} {lent' : List A} where
  pub demanded : (checks : List Check) → answer ≡ verdict (in_order checks) value → lent' ≡ kept (in_order checks) lent filled
      → Demand1 checks value lent filled answer lent'
  demanded [] e q = record {
    gives = λ number place. ((λ r. done-not-refused (sym e ∙ r)), (λ h. absurd h));
    keeps = λ number place r. absurd (done-not-refused (sym e ∙ r));
    answers = λ h. e;
    fills = λ h. q;
  }
  demanded (passes ∷ checks) e q =
      let d = demanded checks e q in
      record { gives = d.gives; keeps = d.keeps; answers = d.answers; fills = d.fills }
  demanded (refuses n p ∷ checks) e q = record {
    gives = λ number place. ((λ r. (cc, cc)), (λ h. rw (e, h.0, h.1)));
    keeps = λ number place r. q;
    answers = λ h. absurd h;
    fills = λ h. absurd h;
  }

-- of a call that is lent nothing; `check` is what its contract has for the checks
module _ {Value : Type 0} {value : Value} {answer : Verdict Value} where
  pub answered : {check : Check} (checks : List Check) → check ≡ in_order checks → answer ≡ verdict check value
      → Demand1 {A = ℕ} checks value [] [] answer []
  answered checks e q = demanded checks (rw e at q) (nothing (in_order checks))
    where
      nothing : (check : Check) → [] ≡ kept {A = ℕ} check [] []
      nothing passes = refl
      nothing (refuses number place) = refl

  -- by one check alone
  pub answered-one : {check : Check} → answer ≡ verdict check value → Demand1 {A = ℕ} (check ∷ []) value [] [] answer []
  answered-one {check} q = answered (check ∷ []) (sym (order-one check)) q

-- of a call that fills a lent buffer; `checks` are those that precede 3
module _ {Value A : Type 0} {value : Value} {whole out : List A} {answer : Verdict Value} {out' : List A} where
  pub filled-demanded : {before : Check} (checks : List Check) → before ≡ in_order checks → Fills before whole value out answer out'
      → Demand1 (checks ++ no_room (length out) (length whole) ∷ []) value out (front whole out) answer out'
  filled-demanded {before} checks e f =
      let more : List Check = no_room (length out) (length whole) ∷ [] in
      let q : fits before whole out ≡ in_order (checks ++ more) = rw e (order-flat checks more) in
      demanded (checks ++ more) (rw q at f.answers) (rw q at (f.leaves ∙ after_kept (fits before whole out) whole out))

  -- one check alone precedes 3
  pub filled-alone : {before : Check} → Fills before whole value out answer out'
      → Demand1 (before ∷ no_room (length out) (length whole) ∷ []) value out (front whole out) answer out'
  filled-alone {before} f = filled-demanded (before ∷ []) (sym (order-one before)) f

-- ---- THE DEMAND ADMITS ONE RESULT

module _ {Value A : Type 0} {value : Value} {lent filled : List A} where
  pub results_same : (checks : List Check) {a b : Verdict Value} {o p : List A} → Demand1 checks value lent filled a o
      → Demand1 checks value lent filled b p → (a ≡ b) × (o ≡ p)
  results_same [] d e = (d.answers tt ∙ sym (e.answers tt), d.fills tt ∙ sym (e.fills tt))
  results_same (passes ∷ checks) d e =
      results_same checks (record { gives = d.gives; keeps = d.keeps; answers = d.answers; fills = d.fills })
      (record { gives = e.gives; keeps = e.keeps; answers = e.answers; fills = e.fills })
  results_same (refuses n q ∷ checks) d e =
      let r = (d.gives n q).1 (refl, refl) in
      let s = (e.gives n q).1 (refl, refl) in
      (r ∙ sym s, d.keeps n q r ∙ sym (e.keeps n q s))

  -- and where an answer of the code is known by its verdict, one answer
  pub results-one : {Answer : Type 0} (reading : Answer → Verdict Value) → ((a b : Answer) → reading a ≡ reading b → a ≡ b) → (checks : List Check)
      → {a b : Answer} {o p : List A} → Demand1 checks value lent filled (reading a) o → Demand1 checks value lent filled (reading b) p → (a ≡ b) × (o ≡ p)
  results-one reading injective checks {a} {b} d e = let h = results_same checks d e in (injective a b h.0, h.1)
