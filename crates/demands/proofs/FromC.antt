-- The demands from C. In order: a call that refuses nothing passed its checks (`unrefused`);
-- mending, names and ranking, each from its contract for C to that of the call below it, and from
-- there by the demands.
use mathlib.Core.Path.{◌≡◌, refl, sym, ◌∙◌, ap}
use mathlib.Core.List.{List, [], ◌∷◌}
use Prim.Native.Nat.{ℕ, zero, suc, ◌+◌, ◌≤◌}
use native.Mathlib.Omega.{arith}
use lib.ListN.{length, take}
use Rattle.std.specs.Prelude.{Ok}
use Rattle.answers.specs.Checks.{Check, passes, refuses, in_order, takes_bytes, takes_units}
use Rattle.answers.specs.Verdicts.{Verdict, verdict, fits}
use Rattle.answers.proofs.Verdicts.{fills-done, fills-front}
use Rattle.encodings.specs.Forms.{Form, ill_in}
use Rattle.encodings.specs.Reading.{counted_in, ReadsIn}
use Rattle.encodings.proofs.Texts.{reading-in-unique}
use Rattle.utf8.specs.Reading.{counted_of}
use Rattle.utf8.proofs.Round.{encodes8}
use Rattle.mending.specs.Mending.{mended_in, mended}
use Rattle.mending.proofs.Damage.{done-filled}
use Rattle.utf16.specs.Utf16.{form16}
use Rattle.utf16.proofs.Forms.{encodes16}
use Rattle.mending_units.specs.Mending.{mended_units}
use Rattle.names.specs.Names.{name_of, named}
use Rattle.names.specs.Naming.{no_syllable, no_name, syllable_or, Names}
use Rattle.names.proofs.Found.{passes-syllable, name-reads}
use Rattle.ranking.specs.Ranking.{order_number, swapped, rank_bytes, takes_two_bytes}
use Rattle.std.specs.declared.cmp.Ordering.{Ordering}
use Rattle.std.specs.declared.cmp.Ordering.TheVariants.{Less, Equal, Greater}
use Rattle.ranking.proofs.Orders.{chain-most}
use Rattle.ranking.proofs.Ranks.{bytes-swapped, bytes-chain, same-mended-equal}
use Rattle.pulphopper.specs.Replies.{plain_answer, MendsIn, NamesForC, RanksForC}
use Rattle.pulphopper.specs.declared.answer.Answer.{Answer}
use Rattle.demands.specs.FromC as demand
use Rattle.demands.proofs.Accident.{one-boat}
use Rattle.demands.proofs.Clipboard.{one-boat-units}
use Rattle.demands.proofs.Calls.{Numbered, numbered-both, limit-numbered, fits-numbered, syllable-numbered, name-numbered, Tells, counted-for-c, plain-for-c, order-for-c}

-- ---- a call that refuses nothing passed its checks, and answers its value

module _ {Value : Type 0} {tells : Verdict Value → Answer} {value : Value → ℕ × ℕ} (c : Tells tells value) where
  unrefused : (check : Check) → Numbered check → (v : Value) {r : Answer} → r ≡ tells (verdict check v) → r.refusal ≡ 0 → check ≡ passes
  unrefused passes h v e z = refl
  unrefused (refuses zero place) h v e z = absurd h
  unrefused (refuses (suc n) place) h v e z = absurd (omega (arith, z, ap (λ (a : Answer). a.refusal) (e ∙ c.is-refused (suc n) place)))

bytes-numbered : (bytes : List ℕ) → Numbered (takes_bytes bytes)
unfolding takes_units
bytes-numbered bytes = limit-numbered 16384 (length bytes)

-- ---- mending, in any encoding form

module _ {f : Form} {text out out' : List ℕ} {r : Answer} (h : MendsIn f text out r out') (z : r.refusal ≡ 0) where
  mended-passed : fits (takes_units text) (mended_in f text) out ≡ passes
  mended-passed =
      unrefused counted-for-c (fits (takes_units text) (mended_in f text) out) (fits-numbered (takes_units text) (mended_in f text) out (bytes-numbered text))
      (counted_in f (mended_in f) text) h.answers z

  mended-told : r ≡ record { refusal = 0; count = ill_in f text; value = length (mended_in f text) }
  mended-told = rw mended-passed at h.answers

  mended-call : ReadsIn f (mended_in f) text out (Ok (counted_in f (mended_in f) text)) out'
  mended-call = record { fills = record { answers = rw mended-passed; leaves = h.leaves } }

-- ---- at UTF-8

pub mended-from-c : demand.MendedFromC
mended-from-c text out out' r h z = record {
  lent = out;
  after = out';
  answer = counted_of mended text;
  call = mended-call h z;
  is = ap (λ (a : Answer). take a.value out') (mended-told h z);
}

pub one-boat-from-c : demand.OneBoatFromC
one-boat-from-c name out out' other other' r q good h k y z =
    one-boat name _ _ good (mended-from-c _ out out' r h y) (mended-from-c _ other other' q k z)

pub counted-from-c : demand.CountedFromC
counted-from-c text out out' r h z P read = ap (λ (a : Answer). a.count) (mended-told h z) ∙ rw (reading-in-unique encodes8 read)

-- ---- and at UTF-16

pub mended-units-from-c : demand.MendedUnitsFromC
mended-units-from-c text out out' r h z = record {
  lent = out;
  after = out';
  answer = counted_in form16 mended_units text;
  call = mended-call h z;
  is = ap (λ (a : Answer). take a.value out') (mended-told h z);
}

pub one-boat-units-from-c : demand.OneBoatUnitsFromC
one-boat-units-from-c name out out' other other' r q good h k y z =
    one-boat-units name _ _ good (mended-units-from-c _ out out' r h y) (mended-units-from-c _ other other' q k z)

pub counted-units-from-c : demand.CountedUnitsFromC
counted-units-from-c text out out' r h z P read = ap (λ (a : Answer). a.count) (mended-told h z) ∙ rw (reading-in-unique encodes16 read)

-- ---- names

module _ {code : ℕ} {out out' : List ℕ} {r : Answer} (h : NamesForC code out r out') (z : r.refusal ≡ 0) where
  named-passed : fits (no_syllable code) (name_of code) out ≡ passes
  named-passed =
      unrefused plain-for-c (fits (no_syllable code) (name_of code) out) (fits-numbered (no_syllable code) (name_of code) out (syllable-numbered code))
      (length (name_of code)) h.answers z

  named-told : r.value ≡ length (name_of code)
  named-told = ap (λ (a : Answer). a.value) (rw named-passed at h.answers)

  named-call : Names code out (Ok r.value) out'
  named-call = record { fills = record { answers = rw (named-told, named-passed); leaves = h.leaves } }

pub named-from-c : demand.NamedFromC
named-from-c code out out' r h z = named-call h z

pub read-from-c : demand.ReadFromC
read-from-c name r h z =
    let check : Check = in_order (takes_bytes name ∷ no_name (named name) ∷ []) in
    let e : check ≡ passes =
    unrefused plain-for-c check (numbered-both (takes_bytes name) (no_name (named name)) (bytes-numbered name) (name-numbered (named name)))
    (syllable_or (named name)) h.answers z in
    record { answers = rw (e, ap (λ (a : Answer). a.value) (rw e at h.answers)) }

pub read-back-from-c : demand.ReadBackFromC
read-back-from-c code out out' r q h z k =
    let d = fills-done (named-call h z).fills in
    let name = name-reads code (passes-syllable code d.0) in
    let e = rw (fills-front (named-call h z).fills d.1) at k.answers in
    let told = e ∙ ap plain_answer (sym name.answers) in
    (ap (λ (a : Answer). a.refusal) told, ap (λ (a : Answer). a.value) told)

-- ---- ranking

module _ {first second : List ℕ} {r : Answer} (h : RanksForC first second r) (z : r.refusal ≡ 0) where
  ranked-numbered : Numbered (takes_two_bytes first second)
  unfolding takes_two_bytes
  ranked-numbered = numbered-both (takes_bytes first) (takes_bytes second) (bytes-numbered first) (bytes-numbered second)

  ranked-told : r.value ≡ order_number (rank_bytes first second)
  ranked-told =
      ap (λ (a : Answer). a.value)
      (rw (unrefused order-for-c (takes_two_bytes first second) ranked-numbered (rank_bytes first second) h.answers z) at h.answers)

both_ways : (o : Ordering) → order_number o + order_number (swapped o) ≡ 2
both_ways Less = refl
both_ways Equal = refl
both_ways Greater = refl

not_after : (o : Ordering) → order_number o ≤ 1 → o ≡ Greater → ⊥
not_after o h e = omega (arith, h, ap order_number e)

at_most : (o : Ordering) → (o ≡ Greater → ⊥) → order_number o ≤ 1
at_most Less h = omega arith
at_most Equal h = omega arith
at_most Greater h = absurd (h refl)

pub swapped-from-c : demand.SwappedFromC
swapped-from-c first second r q h k y z =
    rw (ranked-told h y, ranked-told k z, bytes-swapped first second) (both_ways (rank_bytes first second))

pub transitive-from-c : demand.TransitiveFromC
transitive-from-c first second third r q s h k l x y z m n =
    rw (ranked-told l z)
    (at_most (rank_bytes first third)
    (chain-most (rank_bytes first second) (rank_bytes second third) (rank_bytes first third) (bytes-chain first second third)
    (not_after (rank_bytes first second) (rw (ranked-told h x) at m)) (not_after (rank_bytes second third) (rw (ranked-told k y) at n))))

pub one-rank-from-c : demand.OneRankFromC
one-rank-from-c first second same r m n h z =
    let e : mended first ≡ mended second = sym (done-filled m.call) ∙ sym m.is ∙ n.is ∙ done-filled n.call in
    ranked-told h z ∙ ap order_number (same-mended-equal first second e)
