-- Document 01, 'Marked for proof, and easy to get wrong': the twelve cases, as one table with a
-- single claim over all its rows (`Cases`). A row has a call, its input, and what the call gives:
-- code points or bytes, or the refusal. The claim is over the public calls: every result that a
-- call's contract admits of the input, whatever buffer it is lent, if only that has 64 elements or
-- more, is the row's. Nothing is proved here.
use Rattle.std.specs.Prelude.{◌≡◌, List, [], ◌∷◌, ℕ, ◌≤◌, length, take, Result}
use Rattle.laws.specs.Lists.{All}
use Rattle.laws.specs.Strings.{ascii}
use Rattle.answers.specs.Checks.{bad_code_point}
use Rattle.answers.specs.Verdicts.{Verdict, done, refused, verdict}
use Rattle.answers.specs.Answers.{Makes, answered}
use Rattle.answers.specs.declared.refusal.Refusal.{Refusal}
use Rattle.letters.specs.Syllables.{one_step, full_parts}
use Rattle.letters.specs.Answers.{stepped}
use Rattle.joining.specs.Joining.{join}
use Rattle.encodings.specs.declared.answer.Counted.{Counted}
use Rattle.utf8.specs.Utf8.{read_text}
use Rattle.utf8.specs.Reading.{Reads}
use Rattle.names.specs.Naming.{Names, ReadsName}
use Rattle.clusters.specs.Simple.{simple}
use Rattle.clusters.specs.Gathering.{gathered}
use Rattle.fillers.specs.Groups.{turned}
use Rattle.letters.specs.declared.step.Parts.{Parts}

-- the calls that the cases speak of: those over a text, and those over one code point
pub data Call : Type 0 where
  one-step : ℕ → Call
  parts : List ℕ → Call
  simply : List ℕ → Call
  joins : List ℕ → Call
  gathers : List ℕ → Call
  turns : List ℕ → Call
  reads : List ℕ → Call
  names : ℕ → Call
  reads-name : List ℕ → Call

-- what a call gave that fills a buffer: the front of the buffer, as long as the answer says; or its
-- refusal
abbrev pub given : {Value : Type 0} → (Value → ℕ) → Verdict Value → List ℕ → Verdict (List ℕ)
given size (done value) out = done (take (size value) out)
given size (refused number place) out = refused number place

-- and one that answers a number: that number alone
abbrev pub number_alone : Verdict ℕ → Verdict (List ℕ)
number_alone (done value) = done (value ∷ [])
number_alone (refused number place) = refused number place

-- A CALL GIVES THIS: so does every result that its contract admits, with a buffer of at least 64
-- elements. First of the calls from text to text
abbrev pub TextGives : (List ℕ → List ℕ) → List ℕ → Verdict (List ℕ) → Type 0
TextGives make text v = (out out' : List ℕ) (r : Result ℕ Refusal) → 64 ≤ length out → Makes make text out r out' → given (λ n. n) (answered r) out' ≡ v

abbrev pub Gives : Call → Verdict (List ℕ) → Type 0
Gives (one-step code) v = (r : Result Parts Refusal) → stepped r ≡ verdict (bad_code_point (code ∷ [])) (one_step code) → stepped r ≡ v
Gives (parts text) v = TextGives full_parts text v
Gives (simply text) v = TextGives simple text v
Gives (joins text) v = TextGives join text v
Gives (gathers text) v = TextGives gathered text v
Gives (turns text) v = TextGives turned text v
Gives (reads bytes) v =
    (out out' : List ℕ) (r : Result Counted Refusal) → 64 ≤ length out → Reads read_text bytes out r out' → given (λ (c : Counted). c.length) (answered r) out' ≡ v
Gives (names code) v = (out out' : List ℕ) (r : Result ℕ Refusal) → 64 ≤ length out → Names code out r out' → given (λ n. n) (answered r) out' ≡ v
Gives (reads-name name) v = (r : Result ℕ Refusal) → ReadsName name r → number_alone (answered r) ≡ v

pub record CaseRow : Type 0 where
  pub number : ℕ
  pub call : Call
  pub gives : Verdict (List ℕ)

abbrev pub case_row : ℕ → Call → Verdict (List ℕ) → CaseRow
case_row n c v = record { number = n; call = c; gives = v }

-- THE TABLE
unfoldable pub table : List CaseRow
table =
    case_row 1 (parts (0xAC03 ∷ [])) (done (0x1100 ∷ 0x1161 ∷ 0x11AA ∷ []))
    ∷ case_row 1 (simply (0xAC03 ∷ [])) (done (0x1100 ∷ 0x1161 ∷ 0x11A8 ∷ 0x11BA ∷ []))
    ∷ case_row 2 (one-step 0xAC1D) (done (0xAC1C ∷ 0x11A8 ∷ []))
    ∷ case_row 3 (one-step 0xD7A3) (done (0xD788 ∷ 0x11C2 ∷ []))
    ∷ case_row 3 (names 0xD7A3) (done (ascii "HANGUL SYLLABLE HIH"))
    ∷ case_row 4 (joins (0x1100 ∷ 0x1161 ∷ 0x11A7 ∷ [])) (done (0xAC00 ∷ 0x11A7 ∷ []))
    ∷ case_row 5 (joins (0x1100 ∷ 0x1161 ∷ 0x11C3 ∷ [])) (done (0xAC00 ∷ 0x11C3 ∷ []))
    ∷ case_row 6 (joins (0xAC01 ∷ 0x11A8 ∷ [])) (done (0xAC01 ∷ 0x11A8 ∷ []))
    ∷ case_row 7 (joins (0x1100 ∷ 0x1100 ∷ 0x1161 ∷ [])) (done (0x1100 ∷ 0xAC00 ∷ []))
    ∷ case_row 7 (gathers (0x1100 ∷ 0x1100 ∷ 0x1161 ∷ [])) (done (0xAE4C ∷ []))
    ∷ case_row 8 (gathers (0x1100 ∷ 0x1161 ∷ 0x1175 ∷ [])) (done (0xAC1C ∷ []))
    ∷ case_row 9 (names 0xC544) (done (ascii "HANGUL SYLLABLE A"))
    ∷ case_row 9 (reads-name (ascii "HANGUL SYLLABLE G")) (refused 5 0)
    ∷ case_row 10 (names 0xD4DE) (done (ascii "HANGUL SYLLABLE PWIBS"))
    ∷ case_row 11 (turns (0x3164 ∷ 0x3131 ∷ 0x314F ∷ 0x3164 ∷ [])) (done (0xAC00 ∷ []))
    ∷ case_row 11 (turns (0x3164 ∷ 0x3131 ∷ 0x314F ∷ 0x3138 ∷ [])) (done (0x3164 ∷ 0x3131 ∷ 0x314F ∷ 0x3138 ∷ []))
    ∷ case_row 12 (reads (0xE1 ∷ 0x84 ∷ 0x80 ∷ 0xE1 ∷ 0x20 ∷ 0xA1 ∷ 0xE1 ∷ 0x86 ∷ 0xA8 ∷ [])) (done (0x1100 ∷ 0xFFFD ∷ 0x0020 ∷ 0xFFFD ∷ 0x11A8 ∷ []))
    ∷ []

-- THE CLAIM: every row of the table holds
abbrev pub Cases : Type 0
Cases = All (λ r. Gives r.call r.gives) table
