-- What the loops and the calls that read units ask, in any encoding form. In order: at a loop's
-- index (`Ills`, `next-piece`, `next-good`, `next-ills`, `ills-fit`, `read-end`, `ills-end`,
-- `read-few`); the ways in which a call returns (`reads-refused`, `reads-lacking`, `reads-done`);
-- and that any two of its results are equal (`reads-unique`).
use mathlib.Core.Path.{◌≡◌, refl, sym, ◌∙◌, ap}
use mathlib.Core.Bool.{false}
use mathlib.Core.List.{List, [], ◌∷◌}
use Prim.Native.Nat.{ℕ, zero, suc, ◌+◌, ◌≤◌}
use native.Mathlib.Omega.{arith}
use lib.Dec.{ltb}
use lib.ListN.{length, drop, drop_of_length-le}
use borrow.Author.Tests.{ltb-true, ltb-false}
use Rattle.std.specs.Prelude.{Result, Ok, Err}
use Rattle.laws.specs.Lists.{All, also}
use Rattle.laws.proofs.Bools.{test}
use Rattle.laws.proofs.Filling.{Piece}
use Rattle.answers.specs.Checks.{passes, no_room, takes_units, bad}
use Rattle.answers.specs.Answers.{checked}
use Rattle.answers.specs.declared.refusal.Refusal.{Refusal}
use Rattle.answers.proofs.Answers.{answered-injective}
use Rattle.answers.proofs.Checks.{no-room-kept}
use Rattle.answers.proofs.Verdicts.{checks-passed, refused-before, refused-lacking, filled-whole, fills-unique}
use Rattle.encodings.specs.Forms.{Form, Encodes, pieces_in, read_in, ill_in}
use Rattle.encodings.specs.Reading.{taken_in, ReadFrontsIn, ReadsIn}
use Rattle.encodings.specs.declared.answer.Taken.{Taken}
use Rattle.encodings.specs.declared.answer.Counted.{Counted}
use Rattle.encodings.proofs.Texts.{read-most, ills-most, read-good}
use Rattle.encodings.proofs.Taking.{Next, taken_next}

-- ---- what the loops ask

module _ (f : Form) where
  -- k ill-formed subparts are counted, and with those from the index on they are all
  pub record Ills (text : List ℕ) (at k : ℕ) : Type 0 where
    pub sum : k + ill_in f (drop at text) ≡ ill_in f text

  pub ills-none : (text : List ℕ) → Ills text 0 0
  ills-none text = record { sum = omega arith }

first_of : {c : ℕ} {x : List ℕ} → All (λ c. bad c ≡ false) (c ∷ x) → bad c ≡ false
first_of (also h p) = h

-- r was taken at the index
module _ {f : Form} {text : List ℕ} {at : ℕ} {r : Taken} (h : Next f text at r) where
  pub next-piece : Piece (read_in f (drop at text)) (r.code ∷ []) (read_in f (drop (at + r.size) text))
  next-piece = record { eq = h.read }

  pub next-good : Encodes f → bad r.code ≡ false
  next-good enc = first_of (rw h.read at (read-good enc (drop at text)))

  pub next-ills : {k : ℕ} → Ills f text at k → Ills f text (at + r.size) (k + r.ill)
  next-ills w = record { sum = omega (arith, h.ills, w.sum) }

  pub ills-fit : Encodes f → {k : ℕ} → Ills f text at k → k + r.ill ≤ length text
  ills-fit enc w = omega (arith, h.ills, w.sum, ills-most enc text, read-most enc text)

module _ (f : Form) (text : List ℕ) (at : ℕ) (h : length text ≤ at) where
  pub read-end : read_in f (drop at text) ≡ []
  read-end = rw (drop_of_length-le text h)

  pub ills-end : {k : ℕ} → Ills f text at k → k ≡ ill_in f text
  ills-end w = omega (arith, rw (drop_of_length-le text h) at w.sum)

-- at most as many code points as units, in whatever form: each turn of the code takes a unit
few-from : (f : Form) (text : List ℕ) (n at : ℕ) → length text ≤ at + n → length (read_in f (drop at text)) ≤ n
few-from f text zero at h = rw (read-end f text at (omega (arith, h))) (omega arith)
few-from f text (suc n) at h =
    test (ltb at (length text))
    (λ q.
    let next = taken_next f text at (ltb-true at (length text) q) refl in
    rw next.read (omega (arith, few-from f text n (at + (taken_in f (pieces_in f (drop at text))).size) (omega (arith, h, next.more)))))
    (λ q. rw (read-end f text at (ltb-false at (length text) q)) (omega arith))

pub read-few : (f : Form) (text : List ℕ) → length (read_in f text) ≤ length text
read-few f text = few-from f text (length text) 0 (omega arith)

-- ---- a call's returns

counted_same : (r : Counted) {l i : ℕ} → r.length ≡ l → r.ills ≡ i → r ≡ record { length = l; ills = i }
counted_same r p q = rw (← p, ← q)

module _ {f : Form} {make : List ℕ → List ℕ} {text out : List ℕ} where
  -- v is what the check said
  pub reads-refused : {v : Result (Unit {0}) Refusal} {r : Refusal} → checked v ≡ takes_units text → v ≡ Err r → ReadsIn f make text out (Err r) out
  reads-refused e q = record { fills = refused-before (sym e ∙ ap checked q) }

  -- v is what the check of the room said
  module _ (taken : takes_units text ≡ passes) {v : Result (Unit {0}) Refusal} (found : checked v ≡ no_room (length out) (length (make text))) where
    pub reads-lacking : {r : Refusal} → v ≡ Err r → ReadsIn f make text out (Err r) out
    reads-lacking q = record { fills = refused-lacking taken (sym found ∙ ap checked q) }

    pub reads-done : v ≡ Ok tt → {r : Counted} {out' : List ℕ} → ReadFrontsIn f make text out r out' → ReadsIn f make text out (Ok r) out'
    reads-done e {r} w = record {
      fills =
          rw (counted_same r w.fronts.size w.ills)
          (filled-whole taken (no-room-kept (length out) (length (make text)) (checks-passed found e)) w.fronts.holds);
    }

-- ---- its answers

-- any two results that the contract admits are equal
pub reads-unique : {f : Form} (make : List ℕ → List ℕ) (text out : List ℕ) {r s : Result Counted Refusal} {o p : List ℕ} → ReadsIn f make text out r o
    → ReadsIn f make text out s p → (r ≡ s) × (o ≡ p)
reads-unique make text out a b =
    let h = fills-unique a.fills b.fills in
    (answered-injective _ _ h.0, h.1)
