-- Writing a list into a lent buffer, piece by piece. In order: a piece of what is left (`Piece`);
-- pieces written one after the other (`Room`, `Wrote`), and those that fit (`fitted`); what a loop
-- that fills the front keeps (`Filling`): of `whole` all but `rest` is written, k elements, and
-- after these the buffer is as it was, with numbers copied one by one (`copy-next`, `copy-all`);
-- and what a loop that only counts keeps (`Counting`). Each law concludes what the next turn, or
-- the return, asks.
use mathlib.Core.Path.{◌≡◌, refl, sym, ap, ◌∙◌}
use mathlib.Core.Bool.{Bool, true, false, cond}
use mathlib.Core.List.{List, [], ◌∷◌, ◌++◌, append_assoc, append-nil}
use Prim.Native.Nat.{ℕ, suc, ◌+◌, ◌-◌, ◌≤◌, ◌<◌}
use native.Mathlib.Nat.{add-zero, add-suc, suc-add}
use native.Mathlib.Numerals.{add-one}
use native.Mathlib.Omega.{arith}
use lib.Dec.{leb}
use lib.ListN.{length, get_or, drop, set, length-append, length-drop, drop_of_length-le}
use lib.Seq.{sets, length-sets, drop-cons, set_at}
use borrow.Author.Tests.{le-leb, lt-leb}
use Rattle.laws.specs.Writing.{front, Room, fitted, Wrote, Fronts}
use Rattle.laws.specs.Lists.{each}
use Rattle.laws.specs.Machines.{Machine, from}
use Rattle.laws.proofs.Lists.{at-index, each_next}

-- ---- a piece

-- what is left begins with xs, and then rest is left: a record, so that antt finds xs and rest by
-- itself
pub record Piece {A : Type 0} (left xs rest : List A) : Type 0 where
  pub eq : left ≡ xs ++ rest

pub each-piece : {A B : Type 0} (f : A → List B) (d : A) (l : List A) (i : ℕ) → i < length l
    → Piece (each f (drop i l)) (f (get_or l i d)) (each f (drop (i + 1) l))
each-piece f d l i h = record { eq = each_next f d l i h }

-- what a machine gives from here on: what it emits at i, and then what it gives after it; t and xs
-- are the next state and what is emitted, as the code has them. At the end, what is flushed
module _ {S A B : Type 0} (m : Machine S A B) where
  pub machine-piece : {s t : S} {xs : List B} (d : A) (l : List A) (i : ℕ) → i < length l → t ≡ m.step s (get_or l i d) → xs ≡ m.emit s (get_or l i d)
      → Piece (from m s (drop i l)) xs (from m t (drop (i + 1) l))
  machine-piece d l i h e q = record { eq = rw (at-index d l i h, e, q) }

  pub machine-last : {s : S} {xs : List B} (l : List A) (i : ℕ) → length l ≤ i → xs ≡ m.flush s → Piece (from m s (drop i l)) xs []
  machine-last l i h q = record { eq = rw (drop_of_length-le l h, append-nil, q) }

-- ---- Room and Wrote

module _ {A : Type 0} where
  pub sets-append : (l : List A) (at : ℕ) (xs ys : List A) → sets l at (xs ++ ys) ≡ sets (sets l at xs) (at + length xs) ys
  sets-append l at [] ys = simp add-zero
  sets-append l at (x ∷ xs) ys = sets-append (set l at x) (suc at) xs ys ∙ simp (suc-add, add-suc)

  pub wrote_one : {all out : List A} {at : ℕ} {x : A} → all ≡ x ∷ [] → Wrote out at all (at + 1) (set out at x)
  wrote_one e = rw e (record { after = refl; holds = refl })

  pub wrote_none : {all out : List A} {at : ℕ} → all ≡ [] → Wrote out at all at out
  wrote_none e = rw e (record { after = omega arith; holds = refl })

  pub wrote-pair : {all out : List A} {at : ℕ} {x y : A} → all ≡ x ∷ y ∷ [] → Wrote out at all (at + 2) (set (set out at x) (at + 1) y)
  wrote-pair e = rw e (record { after = refl; holds = rw add-one })

  pub wrote-three : {all out : List A} {at : ℕ} {x y z : A} → all ≡ x ∷ y ∷ z ∷ []
      → Wrote out at all (at + 3) (set (set (set out at x) (at + 1) y) (at + 2) z)
  wrote-three {at = at} e =
      let two : at + 2 ≡ suc (suc at) = omega arith in
      rw e (record { after = refl; holds = rw (add-one, two) })

  pub wrote-four : {all out : List A} {at : ℕ} {x y z w : A} → all ≡ x ∷ y ∷ z ∷ w ∷ []
      → Wrote out at all (at + 4) (set (set (set (set out at x) (at + 1) y) (at + 2) z) (at + 3) w)
  wrote-four {at = at} e =
      let two : at + 2 ≡ suc (suc at) = omega arith in
      let three : at + 3 ≡ suc (suc (suc at)) = omega arith in
      rw e (record { after = refl; holds = rw (add-one, two, three) })

  pub wrote-two : {all xs ys out out' out'' : List A} {at k r : ℕ} → Piece all xs ys → Wrote out at xs k out' → Wrote out' k ys r out''
      → Wrote out at all r out''
  wrote-two {xs = xs} {ys = ys} p v w = rw p.eq (record {
    after = simp length-append (omega (arith, v.after, w.after));
    holds = w.holds ∙ simp (v.after, v.holds) (sym (sets-append _ _ xs ys));
  })

  pub wrote-length : {out xs out' : List A} {at r : ℕ} → Wrote out at xs r out' → length out' ≡ length out
  wrote-length w = ap length w.holds ∙ simp length-sets

  pub room-one : {all out : List A} {at : ℕ} {x : A} → Room out at all → all ≡ x ∷ [] → at < length out
  room-one h e = omega (arith, h.fits, ap length e)

  pub room-pair : {all out : List A} {at : ℕ} {x y : A} → Room out at all → all ≡ x ∷ y ∷ [] → at + 1 < length out
  room-pair h e = omega (arith, h.fits, ap length e)

  -- the same of any list: at its end there is still room
  pub room-all : {all xs out : List A} {at : ℕ} → Room out at all → all ≡ xs → at + length xs ≤ length out
  room-all h e = omega (arith, h.fits, ap length e)

  pub room-first : {all xs ys out : List A} {at : ℕ} → Room out at all → Piece all xs ys → Room out at xs
  room-first h p = record { fits = omega (arith, h.fits, simp length-append at (ap length p.eq)) }

  pub room-second : {all xs ys out out' : List A} {at k : ℕ} → Room out at all → Piece all xs ys → Wrote out at xs k out' → Room out' k ys
  room-second h p w =
      record { fits = omega (arith, h.fits, simp length-append at (ap length p.eq), w.after, simp length-sets at (ap length w.holds)) }

-- ---- fitted: all of a list, or nothing

module _ {A : Type 0} where
  pub fitted-all : (xs out : List A) (at : ℕ) → at + length xs ≤ length out → fitted xs out at ≡ xs
  unfolding fitted
  fitted-all xs out at h = rw (le-leb (at + length xs) (length out) h)

  pub fitted_none : (xs out : List A) (at : ℕ) → length out < at + length xs → fitted xs out at ≡ []
  unfolding fitted
  fitted_none xs out at h = rw (lt-leb (at + length xs) (length out) h)

  pub fitted-nil : (out : List A) (at : ℕ) → fitted [] out at ≡ []
  unfolding fitted
  fitted-nil out at = by (leb (at + 0) (length out))
    where
      by : (b : Bool) → cond {A = List A} b [] [] ≡ []
      by true = refl
      by false = refl

  -- where there is room for xs, it was xs that was written
  pub wrote-all : {xs out out' : List A} {at r : ℕ} → Room out at xs → Wrote out at (fitted xs out at) r out' → Wrote out at xs r out'
  wrote-all {xs} {out} {at = at} h w = rw (fitted-all xs out at h.fits) at w

  -- the same the other way round, as the code has it: `all` is nothing; it is xs, which fits, or
  -- does not
  pub wrote-empty : {all out : List A} {at : ℕ} → all ≡ [] → Wrote out at (fitted all out at) at out
  wrote-empty {out = out} {at = at} e = rw e (wrote_none (fitted-nil out at))

  pub wrote-fitted : {all xs out out' : List A} {at r : ℕ} → all ≡ xs → at + length xs ≤ length out → Wrote out at all r out'
      → Wrote out at (fitted all out at) r out'
  wrote-fitted {all} {out = out} {at = at} e h w = rw (fitted-all all out at (omega (arith, ap length e))) w

  pub wrote-unfitted : {all xs out : List A} {at : ℕ} → all ≡ xs → length out < at + length xs → Wrote out at (fitted all out at) at out
  wrote-unfitted {all} {out = out} {at = at} e h = wrote_none (fitted_none all out at (omega (arith, ap length e)))

-- ---- Filling

pub record Filling {A : Type 0} (whole rest out₀ out : List A) (k : ℕ) : Type 0 where
  pub done : List A
  pub size : length done ≡ k
  pub all : done ++ rest ≡ whole
  pub is : out ≡ front done out₀

module _ {A : Type 0} where
  pub filling-none : (whole out : List A) → Filling whole whole out out 0
  filling-none whole out = record { done = []; size = refl; all = refl; is = refl }

  -- the same where what is left is the whole by an equation
  pub filling-begin : {whole left : List A} (out : List A) → left ≡ whole → Filling whole left out out 0
  filling-begin {whole} out e = rw e (filling-none whole out)

  -- k and what is still to be written are together as long as the whole
  pub filling-count : {whole rest out₀ out : List A} {k : ℕ} → Filling whole rest out₀ out k → k + length rest ≡ length whole
  filling-count f = omega (arith, f.size, simp length-append at (ap length f.all))

  pub filling-length : {whole rest out₀ out : List A} {k : ℕ} → length whole ≤ length out₀ → Filling whole rest out₀ out k
      → length out ≡ length out₀
  filling-length {out₀ = out₀} {out = out} h f =
      let n = filling-count f in
      let m : length out ≡ length f.done + (length out₀ - length f.done) = ap length f.is ∙ simp (length-append, length-drop) in
      omega (arith, f.size, m, n)

  -- one element more, and several
  filling-set : {whole rest out₀ out : List A} {k : ℕ} (x : A) → length whole ≤ length out₀ → Filling whole (x ∷ rest) out₀ out k
      → Filling whole rest out₀ (set out k x) (suc k)
  filling-set {rest = rest} {out₀ = out₀} {k = k} x h f =
      let room : length f.done < length out₀ = omega (arith, f.size, filling-count f) in
      record {
        done = f.done ++ (x ∷ []);
        size = simp length-append (simp (f.size, add-one));
        all = simp append_assoc f.all;
        is =
            ap (λ (l : List A). set l k x) (f.is ∙ ap (λ (l : List A). f.done ++ l) (drop-cons out₀ (length f.done) x room))
            ∙ set_at f.done _ _ x k f.size ∙ sym (simp (append_assoc, length-append, add-one));
      }

  filling-sets : {whole rest out₀ out : List A} {k : ℕ} (xs : List A) → length whole ≤ length out₀ → Filling whole (xs ++ rest) out₀ out k
      → Filling whole rest out₀ (sets out k xs) (k + length xs)
  filling-sets [] h f = rw add-zero f
  filling-sets {out = out} {k = k} (x ∷ xs) h f =
      rw (add-suc, ← (suc-add k (length xs))) (filling-sets {out = set {A = A} out k x} xs h (filling-set x h f))

  -- the next piece has room
  pub filling-room : {whole left xs rest out₀ out : List A} {k : ℕ} → length whole ≤ length out₀ → Filling whole left out₀ out k → Piece left xs rest
      → Room out k xs
  filling-room h f p = record { fits = omega (arith, filling-count f, filling-length h f, simp length-append at (ap length p.eq)) }

  -- and is written
  pub filling-more : {whole left xs rest out₀ out out' : List A} {k k' : ℕ} → length whole ≤ length out₀ → Filling whole left out₀ out k
      → Piece left xs rest → Wrote out k xs k' out' → Filling whole rest out₀ out' k'
  filling-more {xs = xs} h f p w = simp (w.after, w.holds) (filling-sets xs h (rw p.eq at f))

  -- nothing is left: the front is the whole
  pub filling-all : {whole rest out₀ out : List A} {k : ℕ} → Filling whole rest out₀ out k → rest ≡ [] → Fronts whole out₀ k out
  filling-all {out₀ = out₀} f e = record {
    size = omega (arith, filling-count f, ap length e);
    holds = f.is ∙ ap (λ (w : List A). front w out₀) (sym (append-nil f.done) ∙ ap (λ (r : List A). f.done ++ r) (sym e) ∙ f.all);
  }

  -- the last piece is written, and nothing is left
  pub filling-last : {whole left xs out₀ out out' : List A} {k k' : ℕ} → length whole ≤ length out₀ → Filling whole left out₀ out k → Piece left xs []
      → Wrote out k xs k' out' → Fronts whole out₀ k' out'
  filling-last h f p w = filling-all (filling-more h f p w) refl

-- a list of numbers copied one by one: the next number, and the end
module _ (list : List ℕ) {out₀ out : List ℕ} {at : ℕ} (f : Filling list (drop at list) out₀ out at) where
  pub copy-next : length list ≤ length out₀ → at < length list → Filling list (drop (at + 1) list) out₀ (set out at (get_or list at 0)) (at + 1)
  copy-next room h = filling-more room f (record { eq = at-index 0 list at h }) (wrote_one refl)

  pub copy-all : length list ≤ at → out ≡ front list out₀
  copy-all h = (filling-all f (drop_of_length-le list h)).holds

-- ---- Counting: the same with no buffer, k elements counted

pub record Counting {A : Type 0} (whole rest : List A) (k : ℕ) : Type 0 where
  pub sum : k + length rest ≡ length whole

module _ {A : Type 0} where
  pub counting-none : (whole : List A) → Counting whole whole 0
  counting-none whole = record { sum = omega arith }

  pub counting-begin : {whole left : List A} → left ≡ whole → Counting whole left 0
  counting-begin {whole} e = rw e (counting-none whole)

  pub counting-fits : {whole left xs rest : List A} {k n : ℕ} → Counting whole left k → Piece left xs rest → n ≡ length xs → k + n ≤ length whole
  counting-fits f p e = omega (arith, f.sum, simp length-append at (ap length p.eq))

  pub counting_more : {whole left xs rest : List A} {k n : ℕ} → Counting whole left k → Piece left xs rest → n ≡ length xs → Counting whole rest (k + n)
  counting_more f p e = record { sum = omega (arith, f.sum, simp length-append at (ap length p.eq)) }

  pub counting-all : {whole rest : List A} {k : ℕ} → Counting whole rest k → rest ≡ [] → k ≡ length whole
  counting-all f e = omega (arith, f.sum, ap length e)

  pub counting-last : {whole left xs : List A} {k n : ℕ} → Counting whole left k → Piece left xs [] → n ≡ length xs → k + n ≡ length whole
  counting-last f p e = counting-all (counting_more f p e) refl
