-- The calls. In order: the checks of two texts, of code points (`two-first-over`,
-- `two-second-over`, `two-first-bad`, `two-second-bad`, `two-passed`) and of bytes
-- (`bytes-second`), and back (`two-short`, `two-bytes-short`); any two results of a call are equal
-- (`ranks-unique`, `ranks-bytes-unique`); RANKING UTF-8 IS RANKING WHAT MENDING READS
-- (`two-taken`, `two-bytes-taken`, `read-filled`, `rank-reads`), and mended texts stand as the
-- texts do (`rank-mends`).
use mathlib.Core.Path.{◌≡◌, sym, ◌∙◌, ap}
use mathlib.Core.List.{List, [], ◌∷◌}
use Prim.Native.Nat.{ℕ, ◌≤◌, ◌<◌}
use lib.ListN.{length, take}
use Rattle.std.specs.Prelude.{Result, Ok, Err}
use Rattle.answers.specs.Checks.{Check, passes, refuses, in_order, over_limit, first_bad, bad_code_point, takes_text, takes_bytes}
use Rattle.answers.specs.Verdicts.{done}
use Rattle.answers.specs.Answers.{checked, answered}
use Rattle.answers.specs.declared.refusal.Refusal.{Refusal}
use Rattle.answers.proofs.Answers.{answered-injective}
use Rattle.answers.proofs.Orders.{order-first, order-rest, order-one}
use Rattle.answers.proofs.Checks.{over-limit-refuses, over-limit-passes, over-limit-kept, bad-code-point-refuses, bad-code-point-passes, units-taken, units-short}
use Rattle.answers.proofs.Verdicts.{fills-done, fills-front}
use Rattle.encodings.specs.declared.answer.Counted.{Counted}
use Rattle.encodings.proofs.Texts.{read_taken}
use Rattle.utf8.specs.Utf8.{read_text}
use Rattle.utf8.specs.Reading.{Reads}
use Rattle.utf8.proofs.Round.{encodes8}
use Rattle.mending.specs.Mending.{mended, filled_front}
use Rattle.mending.proofs.Damage.{done-filled}
use Rattle.ranking.specs.Ranking.{rank, rank_bytes, takes_two, takes_two_bytes, Ranks, RanksBytes}
use Rattle.std.specs.declared.cmp.Ordering.{Ordering}
use Rattle.ranking.proofs.Ranks.{rank-mended}

-- ---- the checks

module _ (first second : List ℕ) where
  pub two-first-over : 16384 < length first → takes_two first second ≡ refuses 1 16384
  unfolding takes_two
  two-first-over h = simp (over-limit-refuses 16384 (length first) h)

  module _ (short : length first ≤ 16384) where
    pub two-second-over : 16384 < length second → takes_two first second ≡ refuses 1 16384
    unfolding takes_two
    two-second-over h = simp (over-limit-passes 16384 (length first) short, over-limit-refuses 16384 (length second) h)

    -- b is the first bad code point of the first text
    module _ (second_short : length second ≤ 16384) {b : ℕ} (found : b ≡ first_bad first) where
      pub two-first-bad : b < length first → takes_two first second ≡ refuses 2 b
      unfolding takes_two
      two-first-bad h =
          rw found (simp (
            over-limit-passes 16384 (length first) short,
            over-limit-passes 16384 (length second) second_short,
            bad-code-point-refuses first (rw found at h),
          ))

      -- and d that of the second
      module _ (good : length first ≤ b) {d : ℕ} (second-found : d ≡ first_bad second) where
        pub two-second-bad : d < length second → takes_two first second ≡ refuses 2 d
        unfolding takes_two
        two-second-bad h =
            rw second-found (simp (
              over-limit-passes 16384 (length first) short,
              over-limit-passes 16384 (length second) second_short,
              bad-code-point-passes first (rw found at good),
              bad-code-point-refuses second (rw second-found at h),
            ))

        pub two-passed : length second ≤ d → takes_two first second ≡ passes
        unfolding takes_two
        two-passed h =
            simp (
              over-limit-passes 16384 (length first) short,
              over-limit-passes 16384 (length second) second_short,
              bad-code-point-passes first (rw found at good),
              bad-code-point-passes second (rw second-found at h),
            )

-- two texts of bytes; v is what the check of the first said
module _ (first second : List ℕ) {v : Result (Unit {0}) Refusal} (said : checked v ≡ takes_bytes first) where
  pub bytes-second : v ≡ Ok tt → (w : Result (Unit {0}) Refusal) → checked w ≡ takes_bytes second → checked w ≡ takes_two_bytes first second
  unfolding takes_two_bytes
  bytes-second e w q = rw (← said, e) (q ∙ sym (order-one (takes_bytes second)))

-- where checks pass in order, the first two pass
both-pass : (a b : Check) (more : List Check) → in_order (a ∷ b ∷ more) ≡ passes → (a ≡ passes) × (b ≡ passes)
both-pass a b more e = (order-first a (b ∷ more) e, order-first b more (order-rest a (b ∷ more) e))

pub two-short : (first second : List ℕ) → takes_two first second ≡ passes
    → record { first_len_bound : length first ≤ 16384; second_len_bound : length second ≤ 16384 }
unfolding takes_two
two-short first second e =
    let p = both-pass (over_limit 16384 (length first)) (over_limit 16384 (length second)) (bad_code_point first ∷ bad_code_point second ∷ []) e in
    record { first_len_bound = over-limit-kept 16384 (length first) p.0; second_len_bound = over-limit-kept 16384 (length second) p.1 }

pub two-bytes-short : (first second : List ℕ) → takes_two_bytes first second ≡ passes
    → record { first_len_bound : length first ≤ 16384; second_len_bound : length second ≤ 16384 }
unfolding takes_two_bytes
two-bytes-short first second e =
    let p = both-pass (takes_bytes first) (takes_bytes second) [] e in
    record { first_len_bound = units-short first p.0; second_len_bound = units-short second p.1 }

-- ---- the answers

-- any two results that a contract admits are equal
pub ranks-unique : (first second : List ℕ) {a b : Result Ordering Refusal} → Ranks first second a → Ranks first second b → a ≡ b
ranks-unique first second f g = answered-injective _ _ (f.answers ∙ sym g.answers)

pub ranks-bytes-unique : (first second : List ℕ) {a b : Result Ordering Refusal} → RanksBytes first second a → RanksBytes first second b → a ≡ b
ranks-bytes-unique first second f g = answered-injective _ _ (f.answers ∙ sym g.answers)

-- ---- RANKING UTF-8 IS RANKING WHAT MENDING READS

-- two texts that are taken alone are taken together
pub two-taken : (first second : List ℕ) → takes_text first ≡ passes → takes_text second ≡ passes → takes_two first second ≡ passes
unfolding takes_two takes_text
two-taken first second e f =
    let p = both-pass (over_limit 16384 (length first)) (bad_code_point first) [] e in
    let q = both-pass (over_limit 16384 (length second)) (bad_code_point second) [] f in
    rw (p.0, q.0, p.1, q.1)

pub two-bytes-taken : (first second : List ℕ) → takes_bytes first ≡ passes → takes_bytes second ≡ passes → takes_two_bytes first second ≡ passes
unfolding takes_two_bytes
two-bytes-taken first second e f = rw (e, f)

-- what a call that is done read
pub read-filled : {text out out' : List ℕ} {r : Counted} → Reads read_text text out (Ok r) out' → take r.length out' ≡ read_text text
read-filled h = fills-front h.fills (ap (λ (c : Counted). c.length) (fills-done h.fills).1)

-- whatever the buffers: ranking two texts of bytes answers what ranking the code points that were
-- read of them answers
pub rank-reads : (s t : List ℕ) {o o' p p' : List ℕ} {r r' : Counted} → Reads read_text s o (Ok r) o' → Reads read_text t p (Ok r') p'
    → {a b : Result Ordering Refusal} → RanksBytes s t a → Ranks (take r.length o') (take r'.length p') b → a ≡ b
unfolding rank_bytes
rank-reads s t h k {a} {b} f g =
    let e = (fills-done h.fills).0 in
    let q = (fills-done k.fills).0 in
    let bytes : answered a ≡ done (rank (read_text s) (read_text t)) = rw (two-bytes-taken s t e q) at f.answers in
    let codes : answered b ≡ done (rank (read_text s) (read_text t)) =
    rw (read-filled h, read-filled k, two-taken (read_text s) (read_text t) (read_taken encodes8 s e) (read_taken encodes8 t q)) at g.answers in
    answered-injective a b (bytes ∙ sym codes)

-- MENDED TEXTS STAND AS THE TEXTS DO, where they are short enough to be ranked
pub rank-mends : (s t : List ℕ) {o o' p p' : List ℕ} {r r' : Counted} → Reads mended s o (Ok r) o' → Reads mended t p (Ok r') p'
    → length (mended s) ≤ 16384 → length (mended t) ≤ 16384 → {a b : Result Ordering Refusal} → RanksBytes s t a → RanksBytes (filled_front r o') (filled_front r' p') b → a ≡ b
rank-mends s t h k l m {a} {b} f g =
    let e = (fills-done h.fills).0 in
    let q = (fills-done k.fills).0 in
    let bytes : answered a ≡ done (rank_bytes s t) = rw (two-bytes-taken s t e q) at f.answers in
    let again : answered b ≡ done (rank_bytes s t) =
    rw (done-filled h, done-filled k, two-bytes-taken (mended s) (mended t) (units-taken (mended s) l) (units-taken (mended t) m), rank-mended s t)
    at g.answers in
    answered-injective a b (bytes ∙ sym again)
