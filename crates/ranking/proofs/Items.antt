-- Laws of a label's items. In order: digits (`digit-yes`, `digit-below`, `digit-above`,
-- `digit-most`); a text by what stands in front (`run-other`, `after-other`, `items-other`,
-- `run-digit`, `after-digit`, `items-digit`, and where no digit does `run_ends`, `after-ends`); a
-- whole run and then no digit (`run-whole`, `after-whole`, `items-digits`); what digits write
-- (`value-front`, `value-zero`, `value-less`, `value-least`, `value-more`, `zero-in-front`); and
-- THE ITEMS ARE THE RIGHT ONES AND THE ONLY ONES (`items-itemised`, `itemised-only`).
use mathlib.Core.Path.{◌≡◌, refl, sym, ◌∙◌, ap}
use mathlib.Core.Bool.{Bool, true, false}
use mathlib.Core.List.{List, [], ◌∷◌, ◌++◌}
use Prim.Native.Nat.{ℕ, suc, ◌+◌, ◌-◌, ◌*◌, ◌^◌, ◌≤◌, ◌<◌}
use native.Mathlib.Nat.{zero-mul, mul_assoc, pow-zero, pow-suc, mul-le-mul_right}
use native.Mathlib.Omega.{arith}
use lib.ListN.{length, length-append}
use Rattle.laws.specs.Lists.{All, none as no_more, also}
use Rattle.laws.proofs.Bools.{test}
use Rattle.laws.proofs.Ranges.{within-yes, within-below, within-above, within-most}
use Rattle.ranking.specs.Items.{Item, number, character, is_digit, run, digits_value, items_after, items, Ends, Itemised, none, other, digits}

-- ---- digits

module _ (c : ℕ) where
  pub digit-yes : 0x30 ≤ c → c ≤ 0x39 → is_digit c ≡ true
  unfolding is_digit
  digit-yes h k = within-yes 0x30 0x39 c h k

  pub digit-below : c < 0x30 → is_digit c ≡ false
  unfolding is_digit
  digit-below h = within-below 0x30 0x39 c h

  pub digit-above : 0x39 < c → is_digit c ≡ false
  unfolding is_digit
  digit-above h = within-above 0x30 0x39 c h

  pub digit-most : is_digit c ≡ true → c ≤ 0x39
  unfolding is_digit
  digit-most e = within-most 0x30 0x39 c e

-- ---- a text by what stands in front

pub run_none : run [] ≡ []
unfolding run
run_none = refl

pub after_none : (b : Bool) → items_after b [] ≡ []
unfolding items_after
after_none b = refl

module _ (c : ℕ) (x : List ℕ) where
  module _ (not_digit : is_digit c ≡ false) where
    pub run-other : run (c ∷ x) ≡ []
    unfolding run
    run-other = rw not_digit

    pub after-other : (b : Bool) → items_after b (c ∷ x) ≡ character c ∷ items x
    unfolding items_after
    after-other b = rw not_digit

    pub items-other : items (c ∷ x) ≡ character c ∷ items x
    items-other = after-other false

  module _ (digit : is_digit c ≡ true) where
    pub run-digit : run (c ∷ x) ≡ c ∷ run x
    unfolding run
    run-digit = rw digit

    pub after-digit : items_after true (c ∷ x) ≡ items_after true x
    unfolding items_after
    after-digit = rw digit

    pub items-digit : items (c ∷ x) ≡ number (digits_value (c ∷ run x)) ∷ items_after true x
    unfolding items_after
    items-digit = simp (digit, run-digit)

-- where no digit stands in front, it is the same whether a digit stood before
pub run_ends : (x : List ℕ) → Ends x → run x ≡ []
run_ends [] e = run_none
run_ends (c ∷ x) e = run-other c x e

pub after-ends : (x : List ℕ) → Ends x → items_after true x ≡ items x
after-ends [] e = after_none true ∙ sym (after_none false)
after-ends (c ∷ x) e = after-other c x e true ∙ sym (items-other c x e)

-- ---- a whole run, and then no digit

module _ (x : List ℕ) (ends : Ends x) where
  pub run-whole : {r : List ℕ} → All (λ c. is_digit c ≡ true) r → run (r ++ x) ≡ r
  run-whole no_more = run_ends x ends
  run-whole (also {a = d} {x = r} h p) = run-digit d (r ++ x) h ∙ ap (λ (l : List ℕ). d ∷ l) (run-whole p)

  pub after-whole : {r : List ℕ} → All (λ c. is_digit c ≡ true) r → items_after true (r ++ x) ≡ items x
  after-whole no_more = after-ends x ends
  after-whole (also {a = d} {x = r} h p) = after-digit d (r ++ x) h ∙ after-whole p

  pub items-digits : (d : ℕ) (r : List ℕ) → All (λ c. is_digit c ≡ true) (d ∷ r) → items (d ∷ r ++ x) ≡ number (digits_value (d ∷ r)) ∷ items x
  items-digits d r (also h p) = items-digit d (r ++ x) h ∙ rw (run-whole p, after-whole p)

-- ---- what digits write

pub value_none : digits_value [] ≡ 0
unfolding digits_value
value_none = refl

pub value-front : (d : ℕ) (x : List ℕ) → digits_value (d ∷ x) ≡ (d - 0x30) * 10 ^ length x + digits_value x
unfolding digits_value
value-front d x = refl

-- a zero in front adds nothing
pub value-zero : (d : ℕ) (x : List ℕ) → d - 0x30 ≡ 0 → digits_value (d ∷ x) ≡ digits_value x
value-zero d x e =
    let z : (d - 0x30) * 10 ^ length x ≡ 0 = ap (λ (n : ℕ). n * 10 ^ length x) e ∙ zero-mul (10 ^ length x) in
    omega (arith, value-front d x, z)

-- it is below ten to the number of its digits, and where the first one is not zero it has that many
pub value-less : {x : List ℕ} → All (λ c. is_digit c ≡ true) x → digits_value x < 10 ^ length x
value-less no_more = omega (arith, value_none, pow-zero 10)
value-less (also {a = d} {x = x} h p) =
    let few : d - 0x30 ≤ 9 = omega (arith, digit-most d h) in
    omega (arith, value-front d x, value-less p, pow-suc 10 (length x), mul-le-mul_right (10 ^ length x) few)

pub value-least : (d : ℕ) (x : List ℕ) → (d - 0x30 ≡ 0 → ⊥) → 10 ^ length x ≤ digits_value (d ∷ x)
value-least d x n =
    let some : 1 ≤ d - 0x30 = omega (arith, n) in
    omega (arith, value-front d x, mul-le-mul_right (10 ^ length x) some)

-- READ FROM THE LEFT it is ten times what was read, and the next digit
pub value-more : (x : List ℕ) (d : ℕ) → digits_value (x ++ (d ∷ [])) ≡ digits_value x * 10 + (d - 0x30)
value-more [] d = omega (arith, value-front d [], value_none, pow-zero 10)
value-more (e ∷ x) d =
    let size : length (x ++ (d ∷ [])) ≡ suc (length x) = length-append x (d ∷ []) ∙ omega arith in
    let ten : (e - 0x30) * 10 ^ length (x ++ (d ∷ [])) ≡ (e - 0x30) * 10 ^ length x * 10 =
    rw (size, pow-suc 10 (length x)) (sym (mul_assoc (e - 0x30) (10 ^ length x) 10)) in
    omega (arith, value-front e (x ++ (d ∷ [])), value-front e x, value-more x d, ten)

-- zeros in front count nothing
pub zero-in-front : (d : ℕ) (x : List ℕ) → is_digit d ≡ true → items (0x30 ∷ d ∷ x) ≡ items (d ∷ x)
zero-in-front d x h =
    let zero : is_digit 0x30 ≡ true = digit-yes 0x30 (omega arith) (omega arith) in
    items-digit 0x30 (d ∷ x) zero
    ∙ rw (value-zero 0x30 (run (d ∷ x)) (omega arith), run-digit d x h, after-digit d x h) (sym (items-digit d x h))

-- ---- THE ITEMS

-- what stands after the run in front, and that both are right
record Right (x : List ℕ) : Type 0 where
  right : Itemised x (items x)
  rest : List ℕ
  stands : x ≡ run x ++ rest
  all_digits : All (λ c. is_digit c ≡ true) (run x)
  ends : Ends rest
  after : Itemised rest (items_after true x)

all_right : (x : List ℕ) → Right x
all_right [] = record {
  right = rw (after_none false) none;
  rest = [];
  stands = rw run_none;
  all_digits = rw run_none no_more;
  ends = tt;
  after = rw (after_none true) none;
}
all_right (c ∷ x) =
    let more = all_right x in
    test (is_digit c)
    (λ h. record {
      right = rw (items-digit c x h) (of-text (sym more.stands) (digits c (run x) (also h more.all_digits) more.ends more.after));
      rest = more.rest;
      stands = rw (run-digit c x h) (ap (λ (l : List ℕ). c ∷ l) more.stands);
      all_digits = rw (run-digit c x h) (also h more.all_digits);
      ends = more.ends;
      after = rw (after-digit c x h) more.after;
    })
    (λ h. record {
      right = rw (items-other c x h) (other c h more.right);
      rest = c ∷ x;
      stands = rw (run-other c x h);
      all_digits = rw (run-other c x h) no_more;
      ends = h;
      after = rw (after-other c x h true) (other c h more.right);
    })
  where
    of-text : {y z : List ℕ} {i : List Item} → y ≡ z → Itemised (c ∷ y) i → Itemised (c ∷ z) i
    of-text e i = rw e at i

-- a label has the items that are computed, and no others
pub items-itemised : (x : List ℕ) → Itemised x (items x)
items-itemised x = (all_right x).right

pub itemised-only : {x : List ℕ} {i : List Item} → Itemised x i → i ≡ items x
itemised-only none = sym (after_none false)
itemised-only (other c {x} {i} h p) = ap (λ (l : List Item). character c ∷ l) (itemised-only p) ∙ sym (items-other c x h)
itemised-only (digits d r {x} {i} h e p) =
    ap (λ (l : List Item). number (digits_value (d ∷ r)) ∷ l) (itemised-only p) ∙ sym (items-digits x e d r h)
