-- Laws of the three answers. In order: they differ; two numbers by value, from the orders
-- (`value_before`, `value_after`, `value-equal`) and by cases (`by_order`); THE ONE ANSWER THAT IS
-- TRUE OF THEM (`by-value-says`, `says-by-value`, `value-compared` of what `cmp` gives,
-- `equal-value`), `by-value-self`, `by-value-swapped`; one comparison and then the next
-- (`then-assoc`, `then_equal`, `swapped-then`, `then-equal-first`, `then-equal-next`); three things
-- compared two by two (`Chain`, `chain-value`, `chain-then`), and what that says (`chain-most`,
-- `chain-before`, `chain-equal-first`, `chain-equal-next`).
use mathlib.Core.Path.{◌≡◌, refl, sym, ◌∙◌, ap}
use Prim.Native.Nat.{ℕ, ◌<◌}
use native.Mathlib.Omega.{arith}
use lib.Dec.{ltb}
use borrow.Author.Tests.{lt-ltb, le-ltb, ltb-true, ltb-false}
use Rattle.std.specs.Ordering.{MatchOrdering, nat_cmp}
use Rattle.std.proofs.lemmas.Cmp.{ranked}
use Rattle.laws.proofs.Bools.{test}
use Rattle.ranking.specs.Ranking.{Says, by_value, swapped, then_by}
use Rattle.std.specs.declared.cmp.Ordering.{Ordering}
use Rattle.std.specs.declared.cmp.Ordering.TheVariants.{Less, Equal, Greater}

-- ---- the answers differ

abbrev place : Ordering → ℕ
place Less = 0
place Equal = 1
place Greater = 2

pub before-not-equal : Less ≡ Equal → ⊥
before-not-equal e = omega (arith, ap place e)

pub before-not-after : Less ≡ Greater → ⊥
before-not-after e = omega (arith, ap place e)

pub after-not-equal : Greater ≡ Equal → ⊥
after-not-equal e = omega (arith, ap place e)

-- ---- two numbers by value

module _ (a b : ℕ) where
  pub value_before : a < b → by_value a b ≡ Less
  unfolding by_value
  value_before h = simp (lt-ltb a b h)

  pub value_after : b < a → by_value a b ≡ Greater
  unfolding by_value
  value_after h = simp (le-ltb a b (omega arith), lt-ltb b a h)

  pub value-equal : a ≡ b → by_value a b ≡ Equal
  unfolding by_value
  value-equal e = simp (le-ltb a b (omega arith), le-ltb b a (omega arith))

  -- by cases
  pub by_order : {G : Type 0} → (a < b → G) → (a ≡ b → G) → (b < a → G) → G
  by_order before equal after =
      test (ltb a b) (λ e. before (ltb-true a b e))
      (λ e. test (ltb b a) (λ q. after (ltb-true b a q)) (λ q. equal (omega (arith, ltb-false a b e, ltb-false b a q))))

  -- the answer is true of the two, and no other one is
  pub by-value-says : Says (by_value a b) a b
  by-value-says =
      by_order (λ h. rw (value_before h) h) (λ h. rw (value-equal h) h) (λ h. rw (value_after h) h)

  pub says-by-value : (o : Ordering) → Says o a b → by_value a b ≡ o
  says-by-value Less h = value_before h
  says-by-value Equal h = value-equal h
  says-by-value Greater h = value_after h

  -- std's `cmp` gives it
  said : (o : Ordering) → MatchOrdering o (a < b) (a ≡ b) (b < a) → Says o a b
  said Less h = h
  said Equal h = h
  said Greater h = h

  pub value-compared : (o : Ordering) → o ≡ nat_cmp a b → o ≡ by_value a b
  value-compared o e = sym (says-by-value o (said o (ranked a b o e)))

  pub equal-value : by_value a b ≡ Equal → a ≡ b
  equal-value e = rw e at by-value-says

pub by-value-self : (a : ℕ) → by_value a a ≡ Equal
by-value-self a = value-equal a a refl

pub by-value-swapped : (a b : ℕ) → by_value b a ≡ swapped (by_value a b)
by-value-swapped a b =
    by_order a b (λ h. rw (value_before a b h) (value_after b a h)) (λ h. rw (value-equal a b h) (value-equal b a (sym h)))
    (λ h. rw (value_after a b h) (value_before b a h))

-- ---- one comparison, and then the next

pub then-assoc : (a b c : Ordering) → then_by (then_by a b) c ≡ then_by a (then_by b c)
then-assoc Less b c = refl
then-assoc Equal b c = refl
then-assoc Greater b c = refl

pub then_equal : (a : Ordering) → then_by a Equal ≡ a
then_equal Less = refl
then_equal Equal = refl
then_equal Greater = refl

pub swapped-then : (a b : Ordering) → swapped (then_by a b) ≡ then_by (swapped a) (swapped b)
swapped-then Less b = refl
swapped-then Equal b = refl
swapped-then Greater b = refl

-- both are equal where the two are
pub then-equal-first : (a b : Ordering) → then_by a b ≡ Equal → a ≡ Equal
then-equal-first Less b e = e
then-equal-first Equal b e = refl
then-equal-first Greater b e = e

pub then-equal-next : (a b : Ordering) → then_by a b ≡ Equal → b ≡ Equal
then-equal-next Less b e = absurd (before-not-equal e)
then-equal-next Equal b e = e
then-equal-next Greater b e = absurd (after-not-equal e)

-- ---- three things: p is where the first stands to the second, q the second to the third, r the
-- first to the third

abbrev pub Chain : Ordering → Ordering → Ordering → Type 0
Chain Less Less r = r ≡ Less
Chain Less Equal r = r ≡ Less
Chain Less Greater r = Unit {0}
Chain Equal q r = r ≡ q
Chain Greater Less r = Unit {0}
Chain Greater Equal r = r ≡ Greater
Chain Greater Greater r = r ≡ Greater

-- of three numbers
pub chain-value : (a b c : ℕ) → Chain (by_value a b) (by_value b c) (by_value a c)
chain-value a b c =
    by_order a b
    (λ h. rw (value_before a b h) (by_order b c (λ k. rw (value_before b c k) (value_before a c (omega arith)))
    (λ k. rw (value-equal b c k) (value_before a c (omega arith))) (λ k. rw (value_after b c k) tt)))
    (λ h. rw (value-equal a b h) (rw h refl))
    (λ h. rw (value_after a b h) (by_order b c (λ k. rw (value_before b c k) tt)
    (λ k. rw (value-equal b c k) (value_after a c (omega arith))) (λ k. rw (value_after b c k) (value_after a c (omega arith)))))

-- where one of the two decides alone
pub chain-before-any : (q : Ordering) → Chain Less q Less
chain-before-any Less = refl
chain-before-any Equal = refl
chain-before-any Greater = tt

pub chain-after-any : (q : Ordering) → Chain Greater q Greater
chain-after-any Less = tt
chain-after-any Equal = refl
chain-after-any Greater = refl

pub chain-any-before : (p : Ordering) → Chain p Less Less
chain-any-before Less = refl
chain-any-before Equal = refl
chain-any-before Greater = tt

pub chain-any-after : (p : Ordering) → Chain p Greater Greater
chain-any-after Less = tt
chain-any-after Equal = refl
chain-any-after Greater = refl

-- and of what is compared first, and then of what is compared next
pub chain-then : (p q r p' q' r' : Ordering) → Chain p q r → Chain p' q' r' → Chain (then_by p p') (then_by q q') (then_by r r')
chain-then Less Less r p' q' r' h k = rw h refl
chain-then Less Equal r p' q' r' h k = rw h (chain-before-any q')
chain-then Less Greater r p' q' r' h k = tt
chain-then Equal Less r p' q' r' h k = rw h (chain-any-before p')
chain-then Equal Equal r p' q' r' h k = rw h k
chain-then Equal Greater r p' q' r' h k = rw h (chain-any-after p')
chain-then Greater Less r p' q' r' h k = tt
chain-then Greater Equal r p' q' r' h k = rw h (chain-after-any q')
chain-then Greater Greater r p' q' r' h k = rw h refl

-- what a chain says
pub chain-most : (p q r : Ordering) → Chain p q r → (p ≡ Greater → ⊥) → (q ≡ Greater → ⊥) → r ≡ Greater → ⊥
chain-most Less Less r h m n e = before-not-after (sym h ∙ e)
chain-most Less Equal r h m n e = before-not-after (sym h ∙ e)
chain-most Less Greater r h m n e = n refl
chain-most Equal q r h m n e = n (sym h ∙ e)
chain-most Greater q r h m n e = m refl

pub chain-before : (p q r : Ordering) → Chain p q r → p ≡ Less → q ≡ Less → r ≡ Less
chain-before p q r h e k = rw (e, k) at h

pub chain-equal-first : (p q r : Ordering) → Chain p q r → p ≡ Equal → r ≡ q
chain-equal-first p q r h e = rw e at h

pub chain-equal-next : (p q r : Ordering) → Chain p q r → q ≡ Equal → r ≡ p
chain-equal-next Less q r h e = rw e at h
chain-equal-next Equal q r h e = h ∙ e
chain-equal-next Greater q r h e = rw e at h
