-- Demand 2: what a call that is done wrote is what the Standard defines, and what undoes what.
use mathlib.Core.Path.{◌≡◌, sym, ◌∙◌, ap}
use mathlib.Core.List.{List, [], ◌∷◌}
use Prim.Native.Nat.{ℕ, ◌+◌}
use native.Mathlib.Omega.{arith}
use lib.ListN.{length, take}
use Rattle.std.specs.Prelude.{Ok}
use Rattle.answers.specs.Checks.{Check, passes, refuses, bad_code_point}
use Rattle.answers.specs.Verdicts.{done, verdict}
use Rattle.answers.specs.Answers.{Makes}
use Rattle.answers.proofs.Verdicts.{done-not-refused, fills-done, fills-front}
use Rattle.letters.proofs.Steps.{index-made}
use Rattle.letters.proofs.Chapter3.{step-mapping, full-decomposition}
use Rattle.joining.proofs.Calls.{parts-call}
use Rattle.normal.specs.Forms.{nfd}
use Rattle.normal.proofs.Conjoining.{nfd-parts, nfc-join}
use Rattle.normal.proofs.Repertoire.{parts-are-nfd, joined-equivalent, joined-is-nfc}
use Rattle.encodings.specs.Pieces.{pieces}
use Rattle.encodings.specs.Forms.{Form, ill_in}
use Rattle.encodings.specs.Reading.{ReadsIn}
use Rattle.encodings.specs.declared.answer.Counted.{Counted}
use Rattle.encodings.proofs.Texts.{reading-in, reading-in-unique}
use Rattle.utf8.specs.Table37.{kind_of}
use Rattle.utf8.specs.Utf8.{read_text}
use Rattle.utf8.proofs.Round.{encodes8}
use Rattle.mending.specs.Mending.{mended_in, mended}
use Rattle.names.specs.Names.{name_of}
use Rattle.names.proofs.Lengths.{syllable-name-most}
use Rattle.names.proofs.NR1.{name-nr1}
use Rattle.names.proofs.Found.{passes-syllable, names-whole, names-unique, read_named as call-named, name-read as call-read}
use Rattle.demands.specs.Demand2 as demand

-- what a call that is done made of a text
pub made : (make : List ℕ → List ℕ) {text out out' : List ℕ} {n : ℕ} → Makes make text out (Ok n) out' → take n out' ≡ make text
made make h = fills-front h.fills (fills-done h.fills).1

-- and of bytes or units, with what it counted
pub made_in : {f : Form} (make : List ℕ → List ℕ) {text out out' : List ℕ} {c : Counted} → ReadsIn f make text out (Ok c) out'
    → (take c.length out' ≡ make text) × (c.ills ≡ ill_in f text)
made_in make h =
    let d = fills-done h.fills in
    (fills-front h.fills (ap (λ c. c.length) d.1), ap (λ c. c.ills) d.1)

-- what a call that is done answers
answer-is : {Value : Type 0} {answer value : Value} (check : Check) → done answer ≡ verdict check value → answer ≡ value
answer-is passes e = cc
answer-is (refuses number place) e = absurd (done-not-refused e)

pub one-step-is : demand.OneStepIs
one-step-is code parts e = answer-is (bad_code_point (code ∷ [])) e ∙ step-mapping code

pub taking-apart : demand.TakingApart
taking-apart text out out' n h = made _ h ∙ full-decomposition text

pub parts-nfd : demand.PartsNfd
parts-nfd text out out' n h = made _ h ∙ sym (nfd-parts text)

pub parts-nfd-ucd : demand.PartsNfdUcd
parts-nfd-ucd ucd u text out out' n all h = made _ h ∙ sym (parts-are-nfd ucd u text all)

pub joining : demand.Joining
joining text out out' n h = made _ h ∙ sym (nfc-join text)

pub joining-ucd : demand.JoiningUcd
joining-ucd ucd u text out out' n all h = made _ h ∙ sym (joined-is-nfc ucd u text all)

pub joining-keeps : demand.JoiningKeeps
joining-keeps ucd u text out out' n h = ap (nfd ucd) (made _ h) ∙ joined-equivalent ucd u text

pub reading-utf8 : demand.ReadingUtf8
reading-utf8 text out out' c h =
    let m = made_in read_text h in
    record {
      pieces = pieces kind_of text;
      read = reading-in encodes8 text;
      codes-are = λ P r. m.0 ∙ rw (reading-in-unique encodes8 r);
      ills-are = λ P r. m.1 ∙ rw (reading-in-unique encodes8 r);
    }

pub mending : demand.Mending
unfolding mended_in
mending text out out' c h P r =
    let m = made_in mended h in
    (m.0 ∙ rw (reading-in-unique encodes8 r, nfc-join (read_text text)), m.1 ∙ rw (reading-in-unique encodes8 r))

pub naming : demand.Naming
naming code out out' n h =
    let d = fills-done h.fills in
    fills-front h.fills d.1 ∙ name-nr1 code (passes-syllable code d.0)

pub read_named : demand.ReadNamed
read_named s n out out' r h k = call-named h k

pub name-read : demand.NameRead
name-read s name out out' r h room k = call-read h room k

pub all_named : demand.AllNamed
all_named index small out out' r room h =
    let is = (index-made index (omega arith)).0 in
    (length (name_of (0xAC00 + index)), (names-unique h (names-whole (0xAC00 + index) is (omega (arith, syllable-name-most (0xAC00 + index))))).0)

pub joining-parts : demand.JoiningParts
joining-parts text out o p r s good short h k = parts-call text out good short h k
