-- What the joiner's step answers meets its contract, from what the code has at each return: m is
-- what is open and c join to, next what is open then, and e what is written.
use mathlib.Core.Path.{◌≡◌, sym, ◌∙◌, ap}
use mathlib.Core.List.{◌++◌}
use Prim.Native.Nat.{ℕ}
use Rattle.std.specs.Prelude.{Some, None as Nothing}
use Rattle.joining.specs.declared.joiner.Open.{Open}
use Rattle.joining.specs.declared.joiner.Emitted.{Emitted}
use Rattle.joining.specs.Roles.{nonzero}
use Rattle.joining.specs.Joining.{opens, held, meets, unless}
use Rattle.joining.specs.Answers.{emitted, Stepped}
use Rattle.joining.proofs.Pairs.{nonzero-none, nonzero-some, nonzero-not}
use Rattle.joining.proofs.Joins.{step-apart, emit-apart, step-joined, emit-joined}

module _ (o : Open) (c : ℕ) {next : Open} {e : Emitted} where
  pub stepped-apart : Nothing ≡ nonzero (meets o c) → next ≡ opens c → emitted e ≡ held o ++ unless next c
      → Stepped o c (record { joiner = record { state = next }; out = e })
  stepped-apart found p q =
      let n : meets o c ≡ 0 = nonzero-none (meets o c) found in
      record { opens = p ∙ sym (step-apart o c n); writes = q ∙ ap (λ (l : Open). held o ++ unless l c) p ∙ sym (emit-apart o c n) }

  pub stepped-joined : {m : ℕ} → Some m ≡ nonzero (meets o c) → next ≡ opens m → emitted e ≡ unless next m
      → Stepped o c (record { joiner = record { state = next }; out = e })
  stepped-joined {m} found p q =
      let is : m ≡ meets o c = nonzero-some (meets o c) found in
      let n : meets o c ≡ 0 → ⊥ = λ h. nonzero-not (meets o c) found (is ∙ h) in
      record {
        opens = p ∙ ap opens is ∙ sym (step-joined o c n);
        writes = q ∙ ap (λ (l : Open). unless l m) p ∙ ap (λ (k : ℕ). unless (opens k) k) is ∙ sym (emit-joined o c n);
      }
