-- THE RANK ORDERS LABELS: every two are comparable, and in one way; and texts that join to the
-- same, or are mended to the same, stand together.
--
-- In order: of items (`items-self`, `items-swapped`, `items-chain`, `items-equal`); of texts of
-- code points (`rank-self`, `rank-swapped`, `rank-total`, `rank-transitive`, `before-transitive`,
-- `equal-items`, `equal-alike`, `equal-alike-right`); the joined text alone counts
-- (`same-joined-equal`, `same-joined-alike`, `rank-joined`); numbers by value (`rank-numbers`,
-- `leading-zero`, `seven`, `ten-after-two`); of texts of bytes (`bytes-self`, `bytes-swapped`,
-- `bytes-chain`, `same-mended-equal`, `same-mended-alike`, `rank-mended`).
use mathlib.Core.Path.{◌≡◌, refl, sym, ◌∙◌, ap}
use mathlib.Core.Bool.{true, false}
use mathlib.Core.Logic.{◌⊎◌, inl, inr, ◌↔◌}
use mathlib.Core.List.{List, [], ◌∷◌, append-nil}
use Prim.Native.Nat.{ℕ}
use native.Mathlib.Omega.{arith}
use Rattle.laws.specs.Lists.{All, none, also}
use Rattle.joining.specs.Joining.{join}
use Rattle.joining.proofs.Roles.{role-between}
use Rattle.joining.proofs.Pairs.{pair-none}
use Rattle.joining.proofs.Joins.{join-closed, join-join}
use Rattle.utf8.specs.Utf8.{read_text}
use Rattle.utf8.proofs.Round.{encodes8}
use Rattle.mending.specs.Mending.{mended}
use Rattle.mending.proofs.Round.{mended-read}
use Rattle.ranking.specs.Items.{Item, number, character, is_digit, digits_value, items}
use Rattle.ranking.specs.Ranking.{by_value, swapped, then_by, rank_item, rank_items, rank, rank_bytes, AtMost}
use Rattle.std.specs.declared.cmp.Ordering.{Ordering}
use Rattle.std.specs.declared.cmp.Ordering.TheVariants.{Less, Equal, Greater}
use Rattle.ranking.proofs.Orders.{before-not-equal, before-not-after, after-not-equal, value_after, equal-value, by-value-self, by-value-swapped, then_equal, swapped-then, then-equal-first, then-equal-next, Chain, chain-value, chain-then, chain-most, chain-before, chain-before-any, chain-after-any, chain-any-before, chain-any-after, chain-equal-first, chain-equal-next}
use Rattle.ranking.proofs.Items.{digit-yes, digit-most, after_none, items-digits, value_none, value-front, zero-in-front}

-- ---- of items

item-self : (a : Item) → rank_item a a ≡ Equal
item-self (number a) = by-value-self a
item-self (character a) = by-value-self a

pub items-self : (x : List Item) → rank_items x x ≡ Equal
items-self [] = refl
items-self (a ∷ x) = rw (item-self a, items-self x)

item-swapped : (a b : Item) → rank_item b a ≡ swapped (rank_item a b)
item-swapped (number a) (number b) = by-value-swapped a b
item-swapped (number a) (character b) = refl
item-swapped (character a) (number b) = refl
item-swapped (character a) (character b) = by-value-swapped a b

pub items-swapped : (x y : List Item) → rank_items y x ≡ swapped (rank_items x y)
items-swapped [] [] = refl
items-swapped [] (b ∷ y) = refl
items-swapped (a ∷ x) [] = refl
items-swapped (a ∷ x) (b ∷ y) = rw (item-swapped a b, items-swapped x y) (sym (swapped-then (rank_item a b) (rank_items x y)))

item-chain : (a b c : Item) → Chain (rank_item a b) (rank_item b c) (rank_item a c)
item-chain (number a) (number b) (number c) = chain-value a b c
item-chain (number a) (number b) (character c) = chain-any-before (by_value a b)
item-chain (number a) (character b) (number c) = tt
item-chain (number a) (character b) (character c) = chain-before-any (by_value b c)
item-chain (character a) (number b) (number c) = chain-after-any (by_value b c)
item-chain (character a) (number b) (character c) = tt
item-chain (character a) (character b) (number c) = chain-any-after (by_value a b)
item-chain (character a) (character b) (character c) = chain-value a b c

pub items-chain : (x y z : List Item) → Chain (rank_items x y) (rank_items y z) (rank_items x z)
items-chain [] [] z = refl
items-chain [] (b ∷ y) [] = tt
items-chain [] (b ∷ y) (c ∷ z) = chain-before-any (then_by (rank_item b c) (rank_items y z))
items-chain (a ∷ x) [] [] = refl
items-chain (a ∷ x) [] (c ∷ z) = tt
items-chain (a ∷ x) (b ∷ y) [] = chain-any-after (then_by (rank_item a b) (rank_items x y))
items-chain (a ∷ x) (b ∷ y) (c ∷ z) =
    chain-then (rank_item a b) (rank_item b c) (rank_item a c) (rank_items x y) (rank_items y z) (rank_items x z) (item-chain a b c) (items-chain x y z)

item-equal : (a b : Item) → rank_item a b ≡ Equal → a ≡ b
item-equal (number a) (number b) e = ap number (equal-value a b e)
item-equal (number a) (character b) e = absurd (before-not-equal e)
item-equal (character a) (number b) e = absurd (after-not-equal e)
item-equal (character a) (character b) e = ap character (equal-value a b e)

pub items-equal : (x y : List Item) → rank_items x y ≡ Equal → x ≡ y
items-equal [] [] e = refl
items-equal [] (b ∷ y) e = absurd (before-not-equal e)
items-equal (a ∷ x) [] e = absurd (after-not-equal e)
items-equal (a ∷ x) (b ∷ y) e =
    let head = item-equal a b (then-equal-first (rank_item a b) (rank_items x y) e) in
    let tail = items-equal x y (then-equal-next (rank_item a b) (rank_items x y) e) in
    cc

-- ---- of texts

-- A LABEL IS EQUAL TO ITSELF
pub rank-self : (x : List ℕ) → rank x x ≡ Equal
unfolding rank
rank-self x = items-self (items (join x))

-- ONE ANSWER TELLS BOTH WAYS: the second stands after the first exactly when the first stands
-- before the second
pub rank-swapped : (x y : List ℕ) → rank y x ≡ swapped (rank x y)
unfolding rank
rank-swapped x y = items-swapped (items (join x)) (items (join y))

-- three labels, two by two
rank-chain : (x y z : List ℕ) → Chain (rank x y) (rank y z) (rank x z)
unfolding rank
rank-chain x y z = items-chain (items (join x)) (items (join y)) (items (join z))

-- EVERY TWO LABELS ARE COMPARABLE
pub rank-total : (x y : List ℕ) → AtMost x y ⊎ AtMost y x
rank-total x y = by (rank x y) refl
  where
    by : (o : Ordering) → rank x y ≡ o → AtMost x y ⊎ AtMost y x
    by Less e = inl (λ q. before-not-after (sym e ∙ q))
    by Equal e = inl (λ q. after-not-equal (sym q ∙ e))
    by Greater e = inr (λ q. before-not-after (sym (rank-swapped x y ∙ ap swapped e) ∙ q))

-- what is at most another, which is at most a third, is at most the third; and so with before
module _ (x y z : List ℕ) where
  pub rank-transitive : AtMost x y → AtMost y z → AtMost x z
  rank-transitive h k = chain-most (rank x y) (rank y z) (rank x z) (rank-chain x y z) h k

  pub before-transitive : rank x y ≡ Less → rank y z ≡ Less → rank x z ≡ Less
  before-transitive h k = chain-before (rank x y) (rank y z) (rank x z) (rank-chain x y z) h k

-- TWO LABELS ARE EQUAL EXACTLY WHERE THEIR ITEMS ARE
pub equal-items : (x y : List ℕ) → (rank x y ≡ Equal) ↔ (items (join x) ≡ items (join y))
unfolding rank
equal-items x y = (items-equal (items (join x)) (items (join y)), (λ e. rw e (items-self (items (join y)))))

-- and then no third label tells them apart
module _ (x y : List ℕ) (equal : rank x y ≡ Equal) (z : List ℕ) where
  pub equal-alike : rank x z ≡ rank y z
  equal-alike = chain-equal-first (rank x y) (rank y z) (rank x z) (rank-chain x y z) equal

  pub equal-alike-right : rank z x ≡ rank z y
  equal-alike-right = sym (chain-equal-next (rank z x) (rank x y) (rank z y) (rank-chain z x y) equal)

-- ---- the joined text alone counts

-- texts that join to the same are equal, and stand alike to every third: the two spellings of one
-- boat stand together
pub same-joined-equal : (x y : List ℕ) → join x ≡ join y → rank x y ≡ Equal
unfolding rank
same-joined-equal x y e = rw e (items-self (items (join y)))

pub same-joined-alike : (x y : List ℕ) → join x ≡ join y → (z : List ℕ) → (rank x z ≡ rank y z) × (rank z x ≡ rank z y)
same-joined-alike x y e z = (equal-alike x y (same-joined-equal x y e) z, equal-alike-right x y (same-joined-equal x y e) z)

pub rank-joined : (x y : List ℕ) → rank (join x) (join y) ≡ rank x y
unfolding rank
rank-joined x y = rw (join-join x, join-join y)

-- ---- numbers

-- a digit joins with nothing after it
join-digit : (d : ℕ) (x : List ℕ) → is_digit d ≡ true → join (d ∷ x) ≡ d ∷ join x
join-digit d x h =
    join-closed d x (λ b. pair-none d b (role-between 0 0x10FF d tt (omega arith) (omega (arith, digit-most d h))))

join-digits : {x : List ℕ} → All (λ c. is_digit c ≡ true) x → join x ≡ x
join-digits none = refl
join-digits (also {a = d} {x = x} h p) = join-digit d x h ∙ ap (λ (l : List ℕ). d ∷ l) (join-digits p)

-- NUMBERS STAND BY VALUE, however long
pub rank-numbers : (d : ℕ) (x : List ℕ) (e : ℕ) (y : List ℕ) → All (λ c. is_digit c ≡ true) (d ∷ x) → All (λ c. is_digit c ≡ true) (e ∷ y)
    → rank (d ∷ x) (e ∷ y) ≡ by_value (digits_value (d ∷ x)) (digits_value (e ∷ y))
unfolding rank
rank-numbers d x e y p q =
    rw (join-digits p, join-digits q, digits-alone d x p, digits-alone e y q)
    (then_equal (by_value (digits_value (d ∷ x)) (digits_value (e ∷ y))))
  where
    digits-alone : (d : ℕ) (x : List ℕ) → All (λ c. is_digit c ≡ true) (d ∷ x) → items (d ∷ x) ≡ number (digits_value (d ∷ x)) ∷ []
    digits-alone d x p = ap items (sym (append-nil (d ∷ x))) ∙ items-digits [] tt d x p ∙ rw (after_none false)

-- zeros in front of a number count nothing
pub leading-zero : (d : ℕ) (x : List ℕ) → is_digit d ≡ true → rank (0x30 ∷ d ∷ x) (d ∷ x) ≡ Equal
unfolding rank
leading-zero d x h =
    rw (join-digit 0x30 (d ∷ x) (digit-yes 0x30 (omega arith) (omega arith)), join-digit d x h, zero-in-front d (join x) h)
    (items-self (items (d ∷ join x)))

-- 07 is 7
pub seven : rank (0x30 ∷ 0x37 ∷ []) (0x37 ∷ []) ≡ Equal
seven = leading-zero 0x37 [] (digit-yes 0x37 (omega arith) (omega arith))

-- 10 stands after 2
pub ten-after-two : rank (0x31 ∷ 0x30 ∷ []) (0x32 ∷ []) ≡ Greater
ten-after-two =
    rank-numbers 0x31 (0x30 ∷ []) 0x32 []
    (also (digit-yes 0x31 (omega arith) (omega arith)) (also (digit-yes 0x30 (omega arith) (omega arith)) none))
    (also (digit-yes 0x32 (omega arith) (omega arith)) none)
    ∙ value_after (digits_value (0x31 ∷ 0x30 ∷ [])) (digits_value (0x32 ∷ []))
    (omega (arith, value-front 0x31 (0x30 ∷ []), value-front 0x30 [], value-front 0x32 [], value_none))

-- ---- of texts of bytes

-- equal to itself, one answer tells both ways, and three labels, two by two
pub bytes-self : (x : List ℕ) → rank_bytes x x ≡ Equal
unfolding rank_bytes
bytes-self x = rank-self (read_text x)

pub bytes-swapped : (x y : List ℕ) → rank_bytes y x ≡ swapped (rank_bytes x y)
unfolding rank_bytes
bytes-swapped x y = rank-swapped (read_text x) (read_text y)

pub bytes-chain : (x y z : List ℕ) → Chain (rank_bytes x y) (rank_bytes y z) (rank_bytes x z)
unfolding rank_bytes
bytes-chain x y z = rank-chain (read_text x) (read_text y) (read_text z)

-- texts that are mended to the same are equal, and stand alike to every third
mended-same : (s t : List ℕ) → mended s ≡ mended t → join (read_text s) ≡ join (read_text t)
mended-same s t e = sym (mended-read encodes8 s) ∙ ap read_text e ∙ mended-read encodes8 t

pub same-mended-equal : (s t : List ℕ) → mended s ≡ mended t → rank_bytes s t ≡ Equal
unfolding rank_bytes
same-mended-equal s t e = same-joined-equal (read_text s) (read_text t) (mended-same s t e)

pub same-mended-alike : (s t : List ℕ) → mended s ≡ mended t → (u : List ℕ) → (rank_bytes s u ≡ rank_bytes t u) × (rank_bytes u s ≡ rank_bytes u t)
unfolding rank_bytes
same-mended-alike s t e u = same-joined-alike (read_text s) (read_text t) (mended-same s t e) (read_text u)

-- MENDED TEXTS STAND AS THE TEXTS THEMSELVES DO
pub rank-mended : (s t : List ℕ) → rank_bytes (mended s) (mended t) ≡ rank_bytes s t
unfolding rank_bytes
rank-mended s t = rw (mended-read encodes8 s, mended-read encodes8 t) (rank-joined (read_text s) (read_text t))
