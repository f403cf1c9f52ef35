-- A loop that fills a whole buffer, element by element: in turn i the elements of `whole` before i
-- are written, by `Filling` of crate laws.
use mathlib.Core.Path.{◌≡◌, refl, ◌∙◌}
use mathlib.Core.List.{List, append-nil}
use Prim.Native.Nat.{ℕ, ◌+◌, ◌≤◌, ◌<◌}
use native.Mathlib.Omega.{arith}
use lib.ListN.{length, get_or, drop, set, length-set, drop_of_length-le}
use Rattle.laws.proofs.Lists.{at-index}
use Rattle.laws.proofs.Filling.{Filling, filling-none, filling-more, filling-all, wrote_one}

pub record Overwriting {A : Type 0} (whole out₀ out : List A) (i : ℕ) : Type 0 where
  pub same : length out ≡ length out₀
  pub size : length whole ≡ length out₀
  pub filling : Filling whole (drop i whole) out₀ out i

module _ {A : Type 0} where
  pub overwriting-none : (whole out : List A) → length whole ≡ length out → Overwriting whole out out 0
  overwriting-none whole out e = record { same = refl; size = e; filling = filling-none whole out }

  -- the element of `whole` at i is stored
  pub overwriting-next : {whole out₀ out : List A} {i : ℕ} {x : A} (d : A) → Overwriting whole out₀ out i → i < length out₀ → x ≡ get_or whole i d
      → Overwriting whole out₀ (set out i x) (i + 1)
  overwriting-next {whole} {out = out} {i = i} {x = x} d f h e =
      let before : i < length whole = omega (arith, f.size) in
      record {
        same = length-set out i x ∙ f.same;
        size = f.size;
        filling = filling-more (omega (arith, f.size)) f.filling (record { eq = rw e (at-index d whole i before) }) (wrote_one {x = x} refl);
      }

  pub overwriting-all : {whole out₀ out : List A} {i : ℕ} → Overwriting whole out₀ out i → length out₀ ≤ i → out ≡ whole
  overwriting-all {whole} {out₀} {i = i} f h =
      let left : length whole ≤ i = omega (arith, f.size) in
      let none : length out₀ ≤ length whole = omega (arith, f.size) in
      (filling-all f.filling (drop_of_length-le whole left)).holds ∙ rw (drop_of_length-le out₀ none) (append-nil whole)
