-- ANY TWO RESULTS THAT THE CONTRACT ADMITS ARE EQUAL (`lists-unique`).
use mathlib.Core.Path.{◌≡◌}
use mathlib.Core.List.{List}
use Prim.Native.Nat.{ℕ}
use Rattle.std.specs.Prelude.{Result}
use Rattle.answers.specs.declared.refusal.Refusal.{Refusal}
use Rattle.answers.proofs.Answers.{answered-injective}
use Rattle.answers.proofs.Verdicts.{fills-unique}
use Rattle.listing.specs.Listing.{Lists}

pub lists-unique : {text out o p : List ℕ} {a b : Result ℕ Refusal} → Lists text out a o → Lists text out b p → (a ≡ b) × (o ≡ p)
lists-unique f g = let h = fills-unique f.fills g.fills in (answered-injective _ _ h.0, h.1)
