-- The first byte that is not zero. In order: what std's `position` says of it (`set-some`,
-- `set-none`); only zeros have no such byte (`set-zeros`, `zeros-set`).
use mathlib.Core.Path.{◌≡◌, refl, sym, ap}
use mathlib.Core.Bool.{false, cond}
use mathlib.Core.List.{List}
use Prim.Native.Nat.{ℕ, zero, suc, ◌≤◌, ◌<◌}
use native.Mathlib.Omega.{arith}
use lib.Dec.{ltb}
use lib.ListN.{length}
use borrow.Author.Tests.{ltb-true, ltb-false, eqb-true, not-false}
use Rattle.std.specs.Prelude.{Some, None, position}
use Rattle.std.specs.List.{position_or_len}
use Rattle.std.proofs.lemmas.List.Recursion.{is_position_or_len}
use Rattle.std.proofs.lemmas.Option.{none-some, cond_some}
use Rattle.laws.proofs.Bools.{test}
use Rattle.laws.specs.Lists.{All, none, also, first_where}
use Rattle.laws.proofs.Lists.{none_first}
use Rattle.labels.specs.Records.{zeros, is_set, first_set}

-- what std counts before the first byte that is set, is its index, or the length
set-place : (bytes : List ℕ) → first_set bytes ≡ position_or_len is_set bytes
unfolding first_where
set-place bytes = is_position_or_len first_set is_set refl (λ b x. ap (λ (n : ℕ). cond (is_set b) 0 n) (omega arith)) bytes

-- so what is found, or not, is that index
pub set-some : (bytes : List ℕ) {at : ℕ} → position is_set bytes ≡ Some at → (first_set bytes < length bytes) × (first_set bytes ≡ at)
set-some bytes e =
    let p = cond_some _ _ _ (rw (← set-place bytes) at e) in
    (ltb-true _ _ p.0, p.1)

pub set-none : (bytes : List ℕ) → position is_set bytes ≡ None → length bytes ≤ first_set bytes
set-none bytes e = test (ltb (first_set bytes) (length bytes)) (λ t. absurd (none-some _ (sym (rw (← set-place bytes, t) at e)))) (λ t. ltb-false _ _ t)

-- there is none in zeros, and only there
pub set-zeros : (n : ℕ) → first_set (zeros n) ≡ n
unfolding first_where
set-zeros zero = refl
set-zeros (suc n) = ap suc (set-zeros n)

pub zeros-set : (bytes : List ℕ) → length bytes ≤ first_set bytes → bytes ≡ zeros (length bytes)
zeros-set bytes h = all-zeros (none_first is_set bytes h)
  where
    all-zeros : {x : List ℕ} → All (λ b. is_set b ≡ false) x → x ≡ zeros (length x)
    all-zeros none = refl
    all-zeros (also {a = b} e p) =
        let z = eqb-true b 0 (not-false _ e) in
        let y = all-zeros p in
        cc
