-- Laws of one step. In order: what stands in front, as a view of the text (`View`); numbers that
-- are open: the longer one is the greater (`longer-less`), of two as long the first digits that
-- differ decide (`sum-value`, `number_digits`), zeros in front pass (`zero-value`, `zero-after`),
-- and numbers that have ended (`number-ended`); what a step answers (`steps-done`, `steps-both`,
-- `steps-as`, `moves`, `moves_from`); then a section for each function of src/compare that
-- decides something.
use mathlib.Core.Path.{◌≡◌, refl, sym, ◌∙◌, ap}
use mathlib.Core.Bool.{true, false, false≢true}
use mathlib.Core.Logic.{inl, inr}
use mathlib.Core.List.{List, [], ◌∷◌}
use Prim.Native.Nat.{ℕ, suc, ◌+◌, ◌-◌, ◌*◌, ◌^◌, ◌≤◌, ◌<◌}
use native.Mathlib.Nat.{suc-mul, mul-le-mul_right, pow-le-pow_right}
use native.Mathlib.Omega.{arith}
use lib.ListN.{length}
use borrow.Author.Tests.{eq-eqb, ne_eqb, eqb-true, eqb-false}
use Rattle.laws.specs.Lists.{All, none, also}
use Rattle.laws.proofs.Bools.{test}
use Rattle.ranking.specs.Items.{is_digit, run, digits_value, items_after, items}
use Rattle.ranking.specs.Ranking.{by_value, then_by, rank_items}
use Rattle.ranking.specs.Inner.{front_of, text_after, rank_from, goes_on_as, is_zero_as, done_with, both_with, zero_with, Closed, Steps}
use Rattle.std.specs.declared.cmp.Ordering.{Ordering}
use Rattle.std.specs.declared.cmp.Ordering.TheVariants.{Less, Equal, Greater}
use Rattle.ranking.specs.declared.compare.Front.{Front}
use Rattle.ranking.specs.declared.compare.Front.TheVariants.{End, Digit, Other}
use Rattle.ranking.specs.declared.compare.State.{State}
use Rattle.ranking.specs.declared.compare.State.TheVariants.{Apart, Zeros, Number, Done}
use Rattle.ranking.specs.declared.compare.Move.{Move}
use Rattle.ranking.proofs.Orders.{value_before, value-equal, value_after, by_order, by-value-self, then-assoc, then_equal}
use Rattle.ranking.proofs.Items.{run_none, after_none, run-other, after-other, items-other, run-digit, after-digit, items-digit, value-front, value-zero, value-less, value-least}

-- ---- what stands in front

data View : List ℕ → Front → Type 0 where
  at-end : View [] End
  at-digit : (d : ℕ) (x : List ℕ) → is_digit d ≡ true → View (d ∷ x) (Digit (d - 0x30))
  at_other : (c : ℕ) (x : List ℕ) → is_digit c ≡ false → View (c ∷ x) (Other c)

view : (x : List ℕ) → View x (front_of x)
view [] = at-end
view (c ∷ x) = test (is_digit c) (λ h. rw h (at-digit c x h)) (λ h. rw h (at_other c x h))

view_of : {a : Front} (x : List ℕ) → a ≡ front_of x → View x a
view_of x e = rw e (view x)

-- ---- numbers that are open

run-all : (x : List ℕ) → All (λ c. is_digit c ≡ true) (run x)
run-all [] = rw run_none none
run-all (c ∷ x) = test (is_digit c) (λ h. rw (run-digit c x h) (also h (run-all x))) (λ h. rw (run-other c x h) none)

run-less : (x : List ℕ) → digits_value (run x) < 10 ^ length (run x)
run-less x = value-less (run-all x)

-- no zero stands in front of the digits: there are none, or the first is not zero
abbrev Stout : Front → Type 0
Stout a = is_zero_as a ≡ false

-- THE LONGER NUMBER IS THE GREATER
longer-less : {a : Front} (x : List ℕ) {y : List ℕ} → View y a → Stout a → length (run x) < length (run y) → digits_value (run x) < digits_value (run y)
longer-less x at-end s h = absurd (omega (arith, ap length run_none))
longer-less x (at_other c y p) s h = absurd (omega (arith, ap length (run-other c y p)))
longer-less x (at-digit d y p) s h =
    let e = run-digit d y p in
    let n : d - 0x30 ≡ 0 → ⊥ = eqb-false (d - 0x30) 0 s in
    let l : length (run x) ≤ length (run y) = omega (arith, ap length e) in
    omega (arith, run-less x, pow-le-pow_right {n = 10} (omega arith) l, value-least d (run y) n, ap digits_value e)

-- so of two that begin with no zero, the lengths may be compared first
longest-first : {a b : Front} {x y : List ℕ} (o : Ordering) → View x a → View y b → Stout a → Stout b
    → then_by (by_value (digits_value (run x)) (digits_value (run y))) o
    ≡ then_by (by_value (length (run x)) (length (run y))) (then_by (by_value (digits_value (run x)) (digits_value (run y))) o)
longest-first {x = x} {y = y} o v w s t =
    by_order (length (run x)) (length (run y))
    (λ h. rw (value_before (length (run x)) (length (run y)) h, value_before (digits_value (run x)) (digits_value (run y)) (longer-less x w t h)))
    (λ h. rw (value-equal (length (run x)) (length (run y)) h))
    (λ h. rw (value_after (length (run x)) (length (run y)) h, value_after (digits_value (run x)) (digits_value (run y)) (longer-less y v s h)))

zeros-number : {a b : Front} {x y : List ℕ} → View x a → View y b → Stout a → Stout b → rank_from Zeros x y ≡ rank_from (Number Equal) x y
zeros-number v w s t = longest-first _ v w s t

-- of two numbers as long, the first digits decide, and then the others
sum_less : (a b p v w : ℕ) → a < b → v < p → a * p + v < b * p + w
sum_less a b p v w h l = omega (arith, suc-mul a p, mul-le-mul_right p h)

sum-value : (a b p v w : ℕ) → v < p → w < p → by_value (a * p + v) (b * p + w) ≡ then_by (by_value a b) (by_value v w)
sum-value a b p v w h k =
    by_order a b
    (λ l. rw (value_before a b l) (value_before (a * p + v) (b * p + w) (sum_less a b p v w l h)))
    (λ l. rw (value-equal a b l) (rw l (by_order v w
    (λ m. rw (value_before v w m) (value_before (b * p + v) (b * p + w) (omega arith)))
    (λ m. rw (value-equal v w m) (value-equal (b * p + v) (b * p + w) (omega arith)))
    (λ m. rw (value_after v w m) (value_after (b * p + v) (b * p + w) (omega arith))))))
    (λ l. rw (value_after a b l) (value_after (a * p + v) (b * p + w) (sum_less b a p w v l k)))

open-digits : (o : Ordering) (d e : ℕ) (r q : List ℕ) (rest : Ordering) → digits_value r < 10 ^ length r → digits_value q < 10 ^ length q
    → then_by (by_value (suc (length r)) (suc (length q))) (then_by o (then_by (by_value (digits_value (d ∷ r)) (digits_value (e ∷ q))) rest))
    ≡ then_by (by_value (length r) (length q)) (then_by (then_by o (by_value (d - 0x30) (e - 0x30))) (then_by (by_value (digits_value r) (digits_value q)) rest))
open-digits o d e r q rest h k =
    by_order (length r) (length q)
    (λ l. rw (value_before (length r) (length q) l, value_before (suc (length r)) (suc (length q)) (omega arith)))
    (λ l.
    let a = by_value (d - 0x30) (e - 0x30) in
    let b = by_value (digits_value r) (digits_value q) in
    let p : 10 ^ length q ≡ 10 ^ length r = ap (λ (n : ℕ). 10 ^ n) (sym l) in
    let v : by_value (digits_value (d ∷ r)) (digits_value (e ∷ q)) ≡ then_by a b =
    rw (value-front d r, value-front e q, p) (sum-value (d - 0x30) (e - 0x30) (10 ^ length r) (digits_value r) (digits_value q) h (rw p at k)) in
    rw (value-equal (length r) (length q) l, value-equal (suc (length r)) (suc (length q)) (omega arith), v)
    (ap (then_by o) (then-assoc a b rest) ∙ sym (then-assoc o a (then_by b rest))))
    (λ l. rw (value_after (length r) (length q) l, value_after (suc (length r)) (suc (length q)) (omega arith)))

number_digits : (o : Ordering) {a b : ℕ} {x y : List ℕ} → View x (Digit a) → View y (Digit b)
    → rank_from (Number o) x y ≡ rank_from (Number (then_by o (by_value a b))) (text_after x) (text_after y)
number_digits o (at-digit d x h) (at-digit e y k) =
    rw (run-digit d x h, run-digit e y k, after-digit d x h, after-digit e y k)
    (open-digits o d e (run x) (run y) (rank_items (items_after true x) (items_after true y)) (run-less x) (run-less y))

-- where two numbers begin, none of their digits has passed
apart-zeros : {a b : ℕ} {x y : List ℕ} → View x (Digit a) → View y (Digit b) → rank_from Apart x y ≡ rank_from Zeros x y
apart-zeros (at-digit d x h) (at-digit e y k) =
    rw (items-digit d x h, items-digit e y k, run-digit d x h, run-digit e y k, after-digit d x h, after-digit e y k)

-- a zero in front passes
zero-value : {a : Front} {x : List ℕ} → View x a → is_zero_as a ≡ true → digits_value (run x) ≡ digits_value (run (text_after x))
zero-value at-end z = absurd (false≢true z)
zero-value (at_other c x h) z = absurd (false≢true z)
zero-value (at-digit d x h) z = rw (run-digit d x h) (value-zero d (run x) (eqb-true (d - 0x30) 0 z))

zero-after : {a : Front} {x : List ℕ} → View x a → is_zero_as a ≡ true → items_after true x ≡ items_after true (text_after x)
zero-after at-end z = absurd (false≢true z)
zero-after (at_other c x h) z = absurd (false≢true z)
zero-after (at-digit d x h) z = after-digit d x h

-- numbers that have ended
closed_run : {a : Front} {x : List ℕ} → View x a → Closed a → run x ≡ []
closed_run at-end s = run_none
closed_run (at-digit d x h) s = absurd s
closed_run (at_other c x h) s = run-other c x h

closed_after : {a : Front} {x : List ℕ} → View x a → Closed a → items_after true x ≡ items x
closed_after at-end s = after_none true ∙ sym (after_none false)
closed_after (at-digit d x h) s = absurd s
closed_after (at_other c x h) s = after-other c x h true ∙ sym (items-other c x h)

number-ended : (o : Ordering) {a b : Front} {x y : List ℕ} → View x a → View y b → Closed a → Closed b
    → rank_from (Number o) x y ≡ then_by o (rank_from Apart x y)
number-ended o v w s t =
    rw (closed_run v s, closed_run w t, closed_after v s, closed_after w t, by-value-self 0, by-value-self (digits_value []))

-- ---- what a step answers

no-more-steps : {G : Type 0} (o : Ordering) → goes_on_as (Done o) ≡ true → G
no-more-steps o e = absurd (false≢true e)

steps-done : {s : State} {a b : Front} (o : Ordering) → ((x y : List ℕ) → View x a → View y b → rank_from s x y ≡ o) → Steps s a b (done_with o)
steps-done o h = record { ranks = λ x y e f. h x y (view_of x e) (view_of y f); on = no-more-steps o }

steps-both : {s : State} {a b : Front} (t : State) → (a ≡ End → ⊥)
    → ((x y : List ℕ) → View x a → View y b → rank_from s x y ≡ rank_from t (text_after x) (text_after y)) → Steps s a b (both_with t)
steps-both t n h = record { ranks = λ x y e f. h x y (view_of x e) (view_of y f); on = λ e. inl (refl, n) }

steps-as : {s t : State} {a b : Front} {r : Move} → ((x y : List ℕ) → View x a → View y b → rank_from s x y ≡ rank_from t x y) → Steps t a b r
    → Steps s a b r
steps-as h k = record { ranks = λ x y e f. h x y (view_of x e) (view_of y f) ∙ k.ranks x y e f; on = k.on }

-- by what the code knows of the fronts and of the answer
pub moves : {s : State} {a a' b b' : Front} {r r' : Move} → a ≡ a' → b ≡ b' → r ≡ r' → Steps s a' b' r' → Steps s a b r
moves e f g h = rw (e, f, g) h

pub moves_from : {s s' : State} {a b : Front} {r r' : Move} → s ≡ s' → r ≡ r' → Steps s' a b r' → Steps s a b r
moves_from e g h = rw (e, g) h

-- ---- others: two code points that are no digits

others-rank : {a b : ℕ} {x y : List ℕ} → View x (Other a) → View y (Other b)
    → rank_from Apart x y ≡ then_by (by_value a b) (rank_from Apart (text_after x) (text_after y))
others-rank (at_other c x h) (at_other d y k) = rw (items-other c x h, items-other d y k)

other-not-end : (c : ℕ) → Other c ≡ End → ⊥
other-not-end c e = let z : ◌≡◌ {A = ℕ} 0 1 = cc in omega arith

digit-not-end : (d : ℕ) → Digit d ≡ End → ⊥
digit-not-end d e = let z : ◌≡◌ {A = ℕ} 0 1 = cc in omega arith

module _ (a b : ℕ) {o : Ordering} (compared : o ≡ by_value a b) {r : Move} where
  pub others-before : o ≡ Less → r ≡ done_with Less → Steps Apart (Other a) (Other b) r
  others-before e g = rw g (steps-done Less (λ x y v w. others-rank v w ∙ rw (← compared, e)))

  pub others-equal : o ≡ Equal → r ≡ both_with Apart → Steps Apart (Other a) (Other b) r
  others-equal e g = rw g (steps-both Apart (other-not-end a) (λ x y v w. others-rank v w ∙ rw (← compared, e)))

  pub others-after : o ≡ Greater → r ≡ done_with Greater → Steps Apart (Other a) (Other b) r
  others-after e g = rw g (steps-done Greater (λ x y v w. others-rank v w ∙ rw (← compared, e)))

-- ---- zeros: of both numbers only zeros have passed

first-zero-rank : {a : Front} {x : List ℕ} (y : List ℕ) → View x a → is_zero_as a ≡ true → rank_from Zeros x y ≡ rank_from Zeros (text_after x) y
first-zero-rank y v z = rw (zero-value v z, zero-after v z)

second-zero-rank : {b : Front} (x : List ℕ) {y : List ℕ} → View y b → is_zero_as b ≡ true → rank_from Zeros x y ≡ rank_from Zeros x (text_after y)
second-zero-rank x w z = rw (zero-value w z, zero-after w z)

zero-not-end : (a : Front) → is_zero_as a ≡ true → a ≡ End → ⊥
zero-not-end a z e = false≢true (sym (ap is_zero_as e) ∙ z)

module _ (a b : Front) where
  pub steps-first-zero : is_zero_as a ≡ true → {r : Move} → r ≡ zero_with true false → Steps Zeros a b r
  steps-first-zero z e = rw e (record {
    ranks = λ x y p q. first-zero-rank y (view_of x p) z;
    on = λ g. inl (refl, zero-not-end a z);
  })

  pub steps-second-zero : is_zero_as b ≡ true → {r : Move} → r ≡ zero_with false true → Steps Zeros a b r
  steps-second-zero z e = rw e (record {
    ranks = λ x y p q. second-zero-rank x (view_of y q) z;
    on = λ g. inr (refl, zero-not-end b z);
  })

  -- neither begins with a zero
  pub steps-stout : is_zero_as a ≡ false → is_zero_as b ≡ false → {r : Move} → Steps (Number Equal) a b r → Steps Zeros a b r
  steps-stout s t h = steps-as (λ x y v w. zeros-number v w s t) h

-- ---- digits: two digits, with which two numbers begin; and number, where both go on

digits-as-zeros : (a b : ℕ) {r : Move} → Steps Zeros (Digit a) (Digit b) r → Steps Apart (Digit a) (Digit b) r
digits-as-zeros a b h = steps-as (λ x y v w. apart-zeros v w) h

module _ (a b : ℕ) {r : Move} where
  pub digits-first-zero : a ≡ 0 → r ≡ zero_with true false → Steps Apart (Digit a) (Digit b) r
  digits-first-zero z e = digits-as-zeros a b (steps-first-zero (Digit a) (Digit b) (eq-eqb a 0 z) e)

  pub digits-second-zero : b ≡ 0 → r ≡ zero_with false true → Steps Apart (Digit a) (Digit b) r
  digits-second-zero z e = digits-as-zeros a b (steps-second-zero (Digit a) (Digit b) (eq-eqb b 0 z) e)

  pub number_more : (o : Ordering) {p q : Ordering} → p ≡ by_value a b → q ≡ then_by o p → r ≡ both_with (Number q) → Steps (Number o) (Digit a) (Digit b) r
  number_more o e f g = rw (g, f, e) (steps-both (Number (then_by o (by_value a b))) (digit-not-end a) (λ x y v w. number_digits o v w))

  pub digits-begin : (a ≡ 0 → ⊥) → (b ≡ 0 → ⊥) → {o : Ordering} → o ≡ by_value a b → r ≡ both_with (Number o) → Steps Apart (Digit a) (Digit b) r
  digits-begin m n e g =
      digits-as-zeros a b (steps-stout (Digit a) (Digit b) (ne_eqb a 0 m) (ne_eqb b 0 n) (number_more Equal e refl g))

-- ---- apart: two items begin

ends-rank : {x y : List ℕ} → View x End → View y End → rank_from Apart x y ≡ Equal
ends-rank at-end at-end = rw (after_none false)

end-digit-rank : {b : ℕ} {x y : List ℕ} → View x End → View y (Digit b) → rank_from Apart x y ≡ Less
end-digit-rank at-end (at-digit e y k) = rw (after_none false, items-digit e y k)

end-other-rank : {b : ℕ} {x y : List ℕ} → View x End → View y (Other b) → rank_from Apart x y ≡ Less
end-other-rank at-end (at_other e y k) = rw (after_none false, items-other e y k)

digit-end-rank : {a : ℕ} {x y : List ℕ} → View x (Digit a) → View y End → rank_from Apart x y ≡ Greater
digit-end-rank (at-digit d x h) at-end = rw (after_none false, items-digit d x h)

digit-other-rank : {a b : ℕ} {x y : List ℕ} → View x (Digit a) → View y (Other b) → rank_from Apart x y ≡ Less
digit-other-rank (at-digit d x h) (at_other e y k) = rw (items-digit d x h, items-other e y k)

other-end-rank : {a : ℕ} {x y : List ℕ} → View x (Other a) → View y End → rank_from Apart x y ≡ Greater
other-end-rank (at_other d x h) at-end = rw (after_none false, items-other d x h)

other-digit-rank : {a b : ℕ} {x y : List ℕ} → View x (Other a) → View y (Digit b) → rank_from Apart x y ≡ Greater
other-digit-rank (at_other d x h) (at-digit e y k) = rw (items-other d x h, items-digit e y k)

pub apart-ends : Steps Apart End End (done_with Equal)
apart-ends = steps-done Equal (λ x y v w. ends-rank v w)

pub apart-end-digit : (b : ℕ) → Steps Apart End (Digit b) (done_with Less)
apart-end-digit b = steps-done Less (λ x y v w. end-digit-rank v w)

pub apart-end-other : (b : ℕ) → Steps Apart End (Other b) (done_with Less)
apart-end-other b = steps-done Less (λ x y v w. end-other-rank v w)

pub apart-digit-end : (a : ℕ) → Steps Apart (Digit a) End (done_with Greater)
apart-digit-end a = steps-done Greater (λ x y v w. digit-end-rank v w)

pub apart-digit-other : (a b : ℕ) → Steps Apart (Digit a) (Other b) (done_with Less)
apart-digit-other a b = steps-done Less (λ x y v w. digit-other-rank v w)

pub apart-other-end : (a : ℕ) → Steps Apart (Other a) End (done_with Greater)
apart-other-end a = steps-done Greater (λ x y v w. other-end-rank v w)

pub apart-other-digit : (a b : ℕ) → Steps Apart (Other a) (Digit b) (done_with Greater)
apart-other-digit a b = steps-done Greater (λ x y v w. other-digit-rank v w)

-- ---- ended: two numbers of one length have ended

module _ {a b : Front} (first : Closed a) (second : Closed b) {o : Ordering} where
  pub ended-before : o ≡ Less → {r : Move} → r ≡ done_with Less → Steps (Number o) a b r
  ended-before e g = rw (e, g) (steps-done Less (λ x y v w. number-ended Less v w first second))

  pub ended-after : o ≡ Greater → {r : Move} → r ≡ done_with Greater → Steps (Number o) a b r
  ended-after e g = rw (e, g) (steps-done Greater (λ x y v w. number-ended Greater v w first second))

  pub ended-equal : o ≡ Equal → {r : Move} → Steps Apart a b r → Steps (Number o) a b r
  ended-equal e h = rw e (steps-as (λ x y v w. number-ended Equal v w first second) h)

-- ---- number, where one of the two has ended and the other goes on

digit-closed-rank : (o : Ordering) {a : ℕ} {b : Front} {x y : List ℕ} → View x (Digit a) → View y b → Closed b → rank_from (Number o) x y ≡ Greater
digit-closed-rank o (at-digit d x h) w t =
    rw (run-digit d x h, closed_run w t, value_after (suc (length (run x))) 0 (omega arith))

closed-digit-rank : (o : Ordering) {a : Front} {b : ℕ} {x y : List ℕ} → View x a → View y (Digit b) → Closed a → rank_from (Number o) x y ≡ Less
closed-digit-rank o v (at-digit e y k) s =
    rw (run-digit e y k, closed_run v s, value_before 0 (suc (length (run y))) (omega arith))

module _ (o : Ordering) where
  pub number-longer : (a : ℕ) (b : Front) → Closed b → Steps (Number o) (Digit a) b (done_with Greater)
  number-longer a b t = steps-done Greater (λ x y v w. digit-closed-rank o v w t)

  pub number-shorter : (a : Front) (b : ℕ) → Closed a → Steps (Number o) a (Digit b) (done_with Less)
  number-shorter a b s = steps-done Less (λ x y v w. closed-digit-rank o v w s)

-- ---- step

pub done-stays : (o : Ordering) (a b : Front) {r : Move} → r ≡ done_with o → Steps (Done o) a b r
done-stays o a b e = rw e (steps-done o (λ x y v w. refl))

-- ---- settled

pub settled-apart : Equal ≡ rank_from Apart [] []
settled-apart = rw (after_none false)

pub settled-zeros : Equal ≡ rank_from Zeros [] []
settled-zeros = rw (run_none, after_none true, by-value-self (digits_value []))

pub settled-number : (o : Ordering) → o ≡ rank_from (Number o) [] []
settled-number o = rw (run_none, after_none true, by-value-self 0, by-value-self (digits_value [])) (sym (then_equal o))
