-- Document 01's twelve cases hold: what each call is defined to give, by computing (`computed`, and
-- `refl` for each row), and that every result which the call's contract admits is that
-- (`filled-gives`, `of-text`, `gives`).
use mathlib.Core.Path.{◌≡◌, refl, ◌∙◌, ap}
use mathlib.Core.Bool.{Bool, true}
use mathlib.Core.List.{List, [], ◌∷◌}
use Prim.Native.Nat.{ℕ, ◌≤◌}
use native.Mathlib.Omega.{arith}
use lib.Dec.{leb}
use lib.ListN.{length, drop}
use lib.Seq.{take-append_seam}
use borrow.Author.Tests.{leb-true}
use Rattle.laws.specs.Lists.{All, none, also, each, first_where}
use Rattle.laws.specs.Ranges.{within}
use Rattle.answers.specs.Checks.{Check, passes, refuses, in_order, over_limit, bad, bad_code_point, takes_text, takes_bytes, takes_units}
use Rattle.answers.specs.Verdicts.{Verdict, done, verdict, after, fits, Fills}
use Rattle.answers.proofs.Checks.{no-room-passes}
use Rattle.letters.specs.Sorts.{class_of, make_of, sort_of}
use Rattle.letters.specs.Syllables.{is_syllable, one_step, parts_to, full_parts}
use Rattle.joining.specs.Roles.{role_of, pair}
use Rattle.joining.specs.Joining.{opens, join}
use Rattle.encodings.specs.declared.answer.Counted.{Counted}
use Rattle.encodings.specs.Rows.{row_in}
use Rattle.utf8.specs.Utf8.{read_text}
use Rattle.names.specs.Names.{initials, peaks, finals, prefix, name_by, name_of, named_from, named}
use Rattle.names.specs.Naming.{no_syllable, no_name, syllable_or}
use Rattle.clusters.specs.Table.{clusters, letters_of}
use Rattle.clusters.specs.Simple.{simple}
use Rattle.clusters.specs.Gathering.{two_of, three_of, clustered, gathered}
use Rattle.fillers.specs.Groups.{pairs, as_initial, as_peak, as_final, group_of, turned}
use Rattle.demands.specs.Cases.{Call, one-step, parts, simply, joins, gathers, turns, reads, names, reads-name, given, number_alone, TextGives, Gives, CaseRow, table, Cases}

-- ---- what each call is defined to give: what precedes 3, and the whole that it writes

abbrev before : Call → Check
before (one-step code) = bad_code_point (code ∷ [])
before (parts text) = takes_text text
before (simply text) = takes_text text
before (joins text) = takes_text text
before (gathers text) = takes_text text
before (turns text) = takes_text text
before (reads bytes) = takes_bytes bytes
before (names code) = no_syllable code
before (reads-name name) = in_order (takes_bytes name ∷ no_name (named name) ∷ [])

abbrev whole : Call → List ℕ
whole (one-step code) = one_step code
whole (parts text) = full_parts text
whole (simply text) = simple text
whole (joins text) = join text
whole (gathers text) = gathered text
whole (turns text) = turned text
whole (reads bytes) = read_text bytes
whole (names code) = name_of code
whole (reads-name name) = syllable_or (named name) ∷ []

abbrev computed : Call → Verdict (List ℕ)
computed c = verdict (before c) (whole c)

-- ---- every result that a contract admits is that

-- where there is room, what precedes 3 decides
roomy : (check : Check) (text out : List ℕ) → length text ≤ length out → fits check text out ≡ check
roomy passes text out room = rw (no-room-passes (length out) (length text) room)
roomy (refuses number place) text out room = refl

-- of a call that fills a buffer with room for the whole
module _ {Value : Type 0} (size : Value → ℕ) (value : Value) (text out : List ℕ) (sized : size value ≡ length text) where
  by-check : (check : Check) {a : Verdict Value} {out' : List ℕ} → a ≡ verdict check value → out' ≡ after check text out
      → given size a out' ≡ verdict check text
  by-check passes e q = rw (e, q, sized) (ap done (take-append_seam text (drop (length text) out)))
  by-check (refuses number place) e q = rw e

  filled-gives : {check : Check} → length text ≤ length out → {a : Verdict Value} {out' : List ℕ} → Fills check text value out a out'
      → given size a out' ≡ verdict check text
  filled-gives {check} room f =
      by-check (fits check text out) f.answers f.leaves ∙ ap (λ (c : Check). verdict c text) (roomy check text out room)

of-text : (make : List ℕ → List ℕ) (text : List ℕ) {v : Verdict (List ℕ)} → verdict (takes_text text) (make text) ≡ v → length (make text) ≤ 64
    → TextGives make text v
of-text make text e short = λ out out' r room h. filled-gives (λ n. n) _ (make text) out refl (omega (arith, short, room)) h.fills ∙ e

alone-verdict : (check : Check) (value : ℕ) → number_alone (verdict check value) ≡ verdict check (value ∷ [])
alone-verdict passes value = refl
alone-verdict (refuses number place) value = refl

gives : (c : Call) {v : Verdict (List ℕ)} → computed c ≡ v → length (whole c) ≤ 64 → Gives c v
gives (one-step code) e short = λ r h. h ∙ e
gives (parts text) e short = of-text full_parts text e short
gives (simply text) e short = of-text simple text e short
gives (joins text) e short = of-text join text e short
gives (gathers text) e short = of-text gathered text e short
gives (turns text) e short = of-text turned text e short
gives (reads bytes) e short = λ out out' r room h. filled-gives (λ (c : Counted). c.length) _ (read_text bytes) out refl (omega (arith, short, room)) h.fills ∙ e
gives (names code) e short = λ out out' r room h. filled-gives (λ n. n) _ (name_of code) out refl (omega (arith, short, room)) h.fills ∙ e
gives (reads-name name) e short = λ r h. ap number_alone h.answers ∙ alone-verdict (before (reads-name name)) (syllable_or (named name)) ∙ e

-- ---- the claim over some rows, as pairs in pairs:
-- what is computed is the row's, and has room in 64 elements

abbrev Holds : List CaseRow → Type 0
Holds [] = Unit {0}
Holds (r ∷ rows) = (◌≡◌ {A = Verdict (List ℕ) × Bool} (computed r.call, leb (length (whole r.call)) 64) (r.gives, true)) × Holds rows

all_hold : (rows : List CaseRow) → Holds rows → All (λ r. Gives r.call r.gives) rows
all_hold [] h = none
all_hold (r ∷ rows) h =
    also (gives r.call (ap (λ p. p.0) h.0) (leb-true (length (whole r.call)) 64 (ap (λ p. p.1) h.0))) (all_hold rows h.1)

pub cases : Cases
unfolding table each within over_limit bad first_where bad_code_point takes_text takes_units sort_of class_of make_of is_syllable one_step parts_to role_of pair opens
    row_in initials peaks finals prefix name_by named named_from no_syllable clusters
    letters_of simple two_of three_of clustered gathered pairs as_initial as_peak as_final group_of turned
cases =
    all_hold table
    (refl, (refl, (refl, (refl, (refl, (refl, (refl, (refl, (refl, (refl, (refl, (refl, (refl, (refl, (refl, (refl, (refl, tt)))))))))))))))))
