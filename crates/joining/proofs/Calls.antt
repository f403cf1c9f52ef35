-- Demand 2's last sentence over the public call: where the parts of a text are within the limit,
-- joining them and joining the text into equal buffers give the same answer and leave the same
-- buffer.
use mathlib.Core.Path.{◌≡◌, sym, ◌∙◌}
use mathlib.Core.Bool.{false}
use mathlib.Core.List.{List}
use Prim.Native.Nat.{ℕ, ◌≤◌}
use native.Mathlib.Omega.{arith}
use lib.ListN.{length}
use Rattle.std.specs.Prelude.{Result}
use Rattle.laws.specs.Lists.{All}
use Rattle.answers.specs.Checks.{bad, passes, takes_text}
use Rattle.answers.specs.Answers.{Makes}
use Rattle.answers.specs.declared.refusal.Refusal.{Refusal}
use Rattle.answers.proofs.Checks.{good-taken}
use Rattle.answers.proofs.Verdicts.{makes-same}
use Rattle.letters.specs.Syllables.{full_parts}
use Rattle.letters.proofs.FullParts.{full-least, full-good}
use Rattle.joining.specs.Joining.{join}
use Rattle.joining.proofs.Joins.{join-parts}

-- JOINING THE PARTS IS JOINING THE TEXT, for any two results that the contract of
-- `joining::text::join` admits
pub parts-call : (text out : List ℕ) → All (λ c. bad c ≡ false) text → length (full_parts text) ≤ 16384 → {r s : Result ℕ Refusal} {o p : List ℕ}
    → Makes join (full_parts text) out r o → Makes join text out s p → (r ≡ s) × (o ≡ p)
parts-call text out good short f g =
    let whole : takes_text text ≡ passes = good-taken text (omega (arith, full-least text)) good in
    let parts : takes_text (full_parts text) ≡ passes = good-taken (full_parts text) short (full-good good) in
    makes-same join out (parts ∙ sym whole) (join-parts text) f g
