-- A number's digits written from the last to the first: what the loop keeps (`Backing`). Each law
-- concludes what the next turn, or the return, asks.
use mathlib.Core.Path.{◌≡◌, refl, ◌∙◌, ap}
use mathlib.Core.List.{List, [], ◌∷◌, ◌++◌, append_assoc, append-nil}
use Prim.Native.Nat.{ℕ, suc, ◌+◌, ◌-◌, ◌/◌, ◌≤◌, ◌<◌}
use native.Mathlib.Omega.{arith}
use lib.ListN.{length, set, length-append}
use lib.Seq.{sets, length-sets, set_comm}
use Rattle.laws.specs.Writing.{Room, Wrote}
use Rattle.sorting.specs.Decimals.{decimal_digit, decimal_of}
use Rattle.sorting.proofs.Decimals.{decimal-one, decimal-more, decimal-longer, decimal-some}

-- a store before a run of stores may as well come first
set_before : (l : List ℕ) (i j : ℕ) (a : ℕ) (x : List ℕ) → i < j → set (sets l j x) i a ≡ sets (set l i a) j x
set_before l i j a [] h = refl
set_before l i j a (b ∷ x) h =
    set_before (set l j b) i (suc j) a x (omega arith)
    ∙ ap (λ (m : List ℕ). sets m (suc j) x) (set_comm l j i b a (λ q. omega arith))

-- of `whole`, which is to stand from `at` on, all after `next` is written; what is left are the
-- digits of rest
pub record Backing (whole : List ℕ) (at : ℕ) (out₀ out : List ℕ) (rest next : ℕ) : Type 0 where
  pub done : List ℕ
  pub place : suc next ≡ at + length (decimal_of rest)
  pub all : decimal_of rest ++ done ≡ whole
  pub is : out ≡ sets out₀ (suc next) done

pub backing-none : (k : ℕ) {at end : ℕ} (out : List ℕ) → end ≡ at + length (decimal_of k) → Backing (decimal_of k) at out out k (end - 1)
backing-none k out e = record { done = []; place = omega (arith, decimal-some k); all = append-nil (decimal_of k); is = refl }

module _ {whole : List ℕ} {at : ℕ} {out₀ out : List ℕ} {rest next : ℕ} (b : Backing whole at out₀ out rest next) where
  pub backing-length : length out ≡ length out₀
  backing-length = ap length b.is ∙ length-sets out₀ (suc next) b.done

  -- the next store is inside
  pub backing-room : Room out₀ at whole → next < length out
  backing-room room =
      omega (arith, b.place, backing-length, room.fits, length-append (decimal_of rest) b.done, ap length b.all)

  -- the digit at `next` is not the first
  pub backing-place : 10 ≤ rest → 1 ≤ next
  backing-place h = omega (arith, b.place, decimal-longer rest h, decimal-some (rest / 10))

  -- the digit at `next` is stored
  stored : (d : ℕ) → set out next d ≡ sets out₀ next (d ∷ b.done)
  stored d = rw b.is (set_before out₀ next (suc next) d b.done (omega arith))

  pub backing-more : 10 ≤ rest → Backing whole at out₀ (set out next (decimal_digit rest)) (rest / 10) (next - 1)
  backing-more h =
      let j : suc (next - 1) ≡ next = omega (arith, backing-place h) in
      let e : decimal_of (rest / 10) ++ (decimal_digit rest ∷ []) ++ b.done ≡ whole = rw (decimal-more rest h) at b.all in
      record {
        done = decimal_digit rest ∷ b.done;
        place = omega (arith, b.place, decimal-longer rest h);
        all = rw append_assoc at e;
        is = rw j (stored (decimal_digit rest));
      }

  -- the first digit is left
  pub backing-all : {end : ℕ} → end ≡ at + length whole → rest < 10 → Wrote out₀ at whole end (set out next (decimal_digit rest))
  backing-all e h =
      let j : next ≡ at = omega (arith, b.place, ap length (decimal-one rest h)) in
      let d : decimal_digit rest ∷ b.done ≡ whole = rw (decimal-one rest h) at b.all in
      record { after = e; holds = stored (decimal_digit rest) ∙ ap (λ (x : List ℕ). sets out₀ next x) d ∙ ap (λ (i : ℕ). sets out₀ i whole) j }
