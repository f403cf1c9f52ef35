-- Numbers in decimal digits.
--
-- In order: the step (`decimal-one`, `decimal-more`), and a proof by it (`by-tenths`); THE DIGITS
-- READ BACK AS THE NUMBER (`decimal-reads`), so no two numbers have the same (`decimal_injective`);
-- they are digits of ASCII only (`decimal-digits`); how many there are, by the step
-- (`decimal-short`, `decimal-longer`, `decimal-some`), and by powers of ten (`decimal-least`,
-- `decimal-most`, `decimal-size`); and none is needless (`decimal-leads`).
use mathlib.Core.Path.{◌≡◌, refl, sym, ◌∙◌, ap}
use mathlib.Core.Bool.{true}
use mathlib.Core.List.{List, [], ◌∷◌, ◌++◌}
use Prim.Native.Nat.{ℕ, zero, suc, ◌^◌, ◌/◌, ◌≤◌, ◌<◌}
use native.Mathlib.Nat.{pow-zero, pow-suc, one-le-pow}
use native.Mathlib.Omega.{arith}
use lib.Dec.{ltb}
use lib.ListN.{length, get_or, length-append, get_or-append}
use borrow.Author.Tests.{lt-ltb, le-ltb, ltb-true, ltb-false}
use Rattle.laws.specs.Lists.{All, none, also}
use Rattle.laws.proofs.Bools.{test}
use Rattle.laws.proofs.Lists.{all_append}
use Rattle.ranking.specs.Items.{is_digit, digits_value}
use Rattle.ranking.proofs.Items.{digit-yes, value_none, value-more}
use Rattle.sorting.specs.Decimals.{decimal_digit, digits_within, decimal_of}

-- ---- the step: one digit, or those of a tenth and then the last

by_ten : {G : Type 0} (k : ℕ) → (k < 10 → G) → (10 ≤ k → G) → G
by_ten k short long = test (ltb k 10) (λ q. short (ltb-true k 10 q)) (λ q. long (ltb-false k 10 q))

within-one : (n k : ℕ) → k < 10 → digits_within n k ≡ decimal_digit k ∷ []
unfolding digits_within
within-one zero k h = refl
within-one (suc n) k h = rw (lt-ltb k 10 h)

within_more : (n k : ℕ) → 10 ≤ k → digits_within (suc n) k ≡ digits_within n (k / 10) ++ (decimal_digit k ∷ [])
unfolding digits_within
within_more n k h = rw (le-ltb k 10 h)

-- k divisions are enough, and more of them change nothing
within-enough : (n m k : ℕ) → k ≤ n → k ≤ m → digits_within n k ≡ digits_within m k
within-enough zero m k h g = within-one zero k (omega arith) ∙ sym (within-one m k (omega arith))
within-enough (suc n) zero k h g = within-one (suc n) k (omega arith) ∙ sym (within-one zero k (omega arith))
within-enough (suc n) (suc m) k h g =
    by_ten k (λ l. within-one (suc n) k l ∙ sym (within-one (suc m) k l))
    (λ l. within_more n k l ∙ ap (λ (x : List ℕ). x ++ (decimal_digit k ∷ [])) (within-enough n m (k / 10) (omega arith) (omega arith))
    ∙ sym (within_more m k l))

pub decimal-one : (k : ℕ) → k < 10 → decimal_of k ≡ decimal_digit k ∷ []
unfolding decimal_of
decimal-one k h = within-one k k h

pub decimal-more : (k : ℕ) → 10 ≤ k → decimal_of k ≡ decimal_of (k / 10) ++ (decimal_digit k ∷ [])
unfolding decimal_of
decimal-more zero h = absurd (omega arith)
decimal-more (suc j) h =
    within_more j (suc j) h
    ∙ ap (λ (x : List ℕ). x ++ (decimal_digit (suc j) ∷ [])) (within-enough j (suc j / 10) (suc j / 10) (omega arith) (omega arith))

-- what holds of the numbers below 10, and of each other if it holds of a tenth of it, holds of all
module _ (P : ℕ → Type 0) (one : (k : ℕ) → k < 10 → P k) (more : (k : ℕ) → 10 ≤ k → P (k / 10) → P k) where
  tenths-to : (n k : ℕ) → k ≤ n → P k
  tenths-to zero k h = one k (omega arith)
  tenths-to (suc n) k h = by_ten k (one k) (λ l. more k l (tenths-to n (k / 10) (omega arith)))

  pub by-tenths : (k : ℕ) → P k
  by-tenths k = tenths-to k k (omega arith)

-- ---- THE DIGITS READ BACK AS THE NUMBER

pub decimal-reads : (k : ℕ) → digits_value (decimal_of k) ≡ k
decimal-reads =
    by-tenths (λ k. digits_value (decimal_of k) ≡ k)
    (λ k h. ap digits_value (decimal-one k h) ∙ omega (arith, value-more [] (decimal_digit k), value_none))
    (λ k h e. ap digits_value (decimal-more k h) ∙ omega (arith, value-more (decimal_of (k / 10)) (decimal_digit k), e))

-- so no two numbers have the same digits
pub decimal_injective : (j k : ℕ) → decimal_of j ≡ decimal_of k → j ≡ k
decimal_injective j k e = sym (decimal-reads j) ∙ ap digits_value e ∙ decimal-reads k

-- ---- digits of ASCII only

digit-is : (d : ℕ) → is_digit (decimal_digit d) ≡ true
digit-is d = digit-yes (decimal_digit d) (omega arith) (omega arith)

pub decimal-digits : (k : ℕ) → All (λ c. is_digit c ≡ true) (decimal_of k)
decimal-digits =
    by-tenths (λ k. All (λ c. is_digit c ≡ true) (decimal_of k)) (λ k h. rw (decimal-one k h) (also (digit-is k) none))
    (λ k h p. rw (decimal-more k h) (all_append p (also (digit-is k) none)))

-- ---- how many digits there are

-- a number below 10 has one digit, any other one more than its tenth, and so at least one
pub decimal-short : (k : ℕ) → k < 10 → length (decimal_of k) ≡ 1
decimal-short k h = ap length (decimal-one k h)

pub decimal-longer : (k : ℕ) → 10 ≤ k → length (decimal_of k) ≡ suc (length (decimal_of (k / 10)))
decimal-longer k h = ap length (decimal-more k h) ∙ length-append (decimal_of (k / 10)) (decimal_digit k ∷ []) ∙ omega arith

pub decimal-some : (k : ℕ) → 1 ≤ length (decimal_of k)
decimal-some k = by_ten k (λ l. omega (arith, decimal-short k l)) (λ l. omega (arith, decimal-longer k l))

-- n + 1 digits from the n-th power of ten on, and below the next
pub decimal-least : (n k : ℕ) → 10 ^ n ≤ k → suc n ≤ length (decimal_of k)
decimal-least zero k h = decimal-some k
decimal-least (suc n) k h =
    let l : 10 ≤ k = omega (arith, pow-suc 10 n, one-le-pow n 10 (omega arith)) in
    let t : 10 ^ n ≤ k / 10 = omega (arith, pow-suc 10 n) in
    omega (arith, decimal-longer k l, decimal-least n (k / 10) t)

pub decimal-most : (n k : ℕ) → k < 10 ^ suc n → length (decimal_of k) ≤ suc n
decimal-most zero k h = omega (arith, decimal-short k (omega (arith, pow-suc 10 0, pow-zero 10)))
decimal-most (suc n) k h =
    by_ten k (λ l. omega (arith, decimal-short k l))
    (λ l. omega (arith, decimal-longer k l, decimal-most n (k / 10) (omega (arith, pow-suc 10 (suc n)))))

pub decimal-size : (n k : ℕ) → 10 ^ n ≤ k → k < 10 ^ suc n → suc n ≡ length (decimal_of k)
decimal-size n k h g = omega (arith, decimal-least n k h, decimal-most n k g)

-- ---- none is needless

-- the first digit is not 0, except of 0 itself
leads : (k : ℕ) → 1 ≤ k → get_or (decimal_of k) 0 0x30 ≡ 0x30 → ⊥
leads =
    by-tenths (λ k. 1 ≤ k → get_or (decimal_of k) 0 0x30 ≡ 0x30 → ⊥)
    (λ k h l e. let q : decimal_digit k ≡ 0x30 = rw (decimal-one k h) at e in omega arith)
    (λ k h p l e. p (omega arith)
    (sym (get_or-append (decimal_of (k / 10)) (decimal_digit k ∷ []) 0x30 0 (decimal-some (k / 10))) ∙ rw (decimal-more k h) at e))

pub decimal-leads : (k : ℕ) → 10 ≤ k → get_or (decimal_of k) 0 0x30 ≡ 0x30 → ⊥
decimal-leads k h = leads k (omega arith)
