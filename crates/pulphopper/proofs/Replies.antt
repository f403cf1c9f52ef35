-- Laws of what C is told: an answer by what mending answers (`mends-done`, `mends-few`,
-- `mends-refused`), by what naming answers (`names-done`, `names-refused`), by what reading a name
-- answers (`reads-done`, `reads-refused`) and by what ranking answers (`ranks-done`,
-- `ranks-refused`); and any two results that a contract admits are equal (`mends-unique`,
-- `names-unique`, `reads-unique`, `ranks-unique`).
use mathlib.Core.Path.{◌≡◌, sym, ◌∙◌, ap}
use mathlib.Core.List.{List}
use Prim.Native.Nat.{ℕ, ◌≤◌}
use Rattle.std.specs.Prelude.{Result, Ok, Err}
use Rattle.answers.specs.Verdicts.{done}
use Rattle.answers.specs.declared.refusal.Refusal.{Refusal}
use Rattle.answers.specs.Answers.{answered}
use Rattle.encodings.specs.Forms.{Form, Encodes}
use Rattle.encodings.specs.Reading.{ReadsIn}
use Rattle.encodings.specs.declared.answer.Counted.{Counted}
use Rattle.mending.specs.Mending.{mended_in}
use Rattle.mending.proofs.Damage.{done-few}
use Rattle.names.specs.Naming.{Names, ReadsName}
use Rattle.ranking.specs.Ranking.{order_number, RanksBytes}
use Rattle.std.specs.declared.cmp.Ordering.{Ordering}
use Rattle.pulphopper.specs.Refusals.{refused_answer}
use Rattle.pulphopper.specs.declared.answer.Answer.{Answer}
use Rattle.pulphopper.specs.Replies.{counted_answer, plain_answer, order_answer, MendsIn, NamesForC, ReadsNameForC, RanksForC}

module _ {f : Form} (text out : List ℕ) where
  -- a is what mending answered, and r what C is told
  module _ {a : Result Counted Refusal} {out' : List ℕ} (h : ReadsIn f (mended_in f) text out a out') where
    by_answer : {r : Answer} → r ≡ counted_answer (answered a) → MendsIn f text out r out'
    by_answer e = record { answers = e ∙ ap counted_answer h.fills.answers; leaves = h.fills.leaves }

    pub mends-done : {c : Counted} → a ≡ Ok c → {r : Answer} → r ≡ counted_answer (done c) → MendsIn f text out r out'
    mends-done e q = by_answer (q ∙ sym (ap (λ (x : Result Counted Refusal). counted_answer (answered x)) e))

    pub mends-few : Encodes f → {c : Counted} → a ≡ Ok c → c.ills ≤ 16384
    mends-few enc e = done-few (rw e at h) enc

    pub mends-refused : {why : Refusal} → a ≡ Err why → {r : Answer} → r ≡ refused_answer why → MendsIn f text out r out'
    mends-refused e q = by_answer (q ∙ sym (ap (λ (x : Result Counted Refusal). counted_answer (answered x)) e))

  pub mends-unique : {r s : Answer} {o p : List ℕ} → MendsIn f text out r o → MendsIn f text out s p → (r ≡ s) × (o ≡ p)
  mends-unique h g = (h.answers ∙ sym g.answers, h.leaves ∙ sym g.leaves)

module _ (code : ℕ) (out : List ℕ) where
  -- a is what naming answered, and r what C is told
  module _ {a : Result ℕ Refusal} {out' : List ℕ} (h : Names code out a out') where
    by-filled : {r : Answer} → r ≡ plain_answer (answered a) → NamesForC code out r out'
    by-filled e = record { answers = e ∙ ap plain_answer h.fills.answers; leaves = h.fills.leaves }

    pub names-done : {k : ℕ} → a ≡ Ok k → NamesForC code out (record { refusal = 0; count = 0; value = k }) out'
    names-done e = by-filled (sym (ap (λ (x : Result ℕ Refusal). plain_answer (answered x)) e))

    pub names-refused : {f : Refusal} → a ≡ Err f → {r : Answer} → r ≡ refused_answer f → NamesForC code out r out'
    names-refused e q = by-filled (q ∙ sym (ap (λ (x : Result ℕ Refusal). plain_answer (answered x)) e))

  pub names-unique : {r s : Answer} {o p : List ℕ} → NamesForC code out r o → NamesForC code out s p → (r ≡ s) × (o ≡ p)
  names-unique f g = (f.answers ∙ sym g.answers, f.leaves ∙ sym g.leaves)

module _ (name : List ℕ) where
  -- a is what reading answered
  module _ {a : Result ℕ Refusal} (h : ReadsName name a) where
    by-named : {r : Answer} → r ≡ plain_answer (answered a) → ReadsNameForC name r
    by-named e = record { answers = e ∙ ap plain_answer h.answers }

    pub reads-done : {s : ℕ} → a ≡ Ok s → ReadsNameForC name (record { refusal = 0; count = 0; value = s })
    reads-done e = by-named (sym (ap (λ (x : Result ℕ Refusal). plain_answer (answered x)) e))

    pub reads-refused : {f : Refusal} → a ≡ Err f → {r : Answer} → r ≡ refused_answer f → ReadsNameForC name r
    reads-refused e q = by-named (q ∙ sym (ap (λ (x : Result ℕ Refusal). plain_answer (answered x)) e))

  pub reads-unique : {r s : Answer} → ReadsNameForC name r → ReadsNameForC name s → r ≡ s
  reads-unique f g = f.answers ∙ sym g.answers

module _ (first second : List ℕ) where
  -- a is what ranking answered
  module _ {a : Result Ordering Refusal} (h : RanksBytes first second a) where
    by_ranked : {r : Answer} → r ≡ order_answer (answered a) → RanksForC first second r
    by_ranked e = record { answers = e ∙ ap order_answer h.answers }

    pub ranks-done : {o : Ordering} → a ≡ Ok o → {n : ℕ} → n ≡ order_number o → RanksForC first second (record { refusal = 0; count = 0; value = n })
    ranks-done e q = by_ranked (rw (e, q))

    pub ranks-refused : {f : Refusal} → a ≡ Err f → {r : Answer} → r ≡ refused_answer f → RanksForC first second r
    ranks-refused e q = by_ranked (q ∙ sym (ap (λ (x : Result Ordering Refusal). order_answer (answered x)) e))

  pub ranks-unique : {r s : Answer} → RanksForC first second r → RanksForC first second s → r ≡ s
  ranks-unique f g = f.answers ∙ sym g.answers
