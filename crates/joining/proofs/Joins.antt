-- Laws of the joiner and of the joined text, for every text of any numbers. What joins are
-- neighbours, from the left to the right; where a text may be cut; that joining and taking apart
-- undo each other; how long a joined text is.
--
-- In order: one step of the joiner (`step-apart`, `emit-apart`, `step-joined`, `emit-joined`); what
-- a code point leaves open (`opens_as_lem`, `meets-pair`, `once`, `stays_open`); the joined text with
-- no machine (`join_one`, `join-joined`, `join_apart`, `join-closed`); two and three at once
-- (`join-two`, `join-three`, `join-two-letters`, `join-three-letters`); left to right, only
-- neighbours (`left-to-right`, `neighbours`); cuts (`fence`, `join-cut`, `none-wall`, `mark-wall`,
-- `mark-around`); joining what was taken apart (`join_step_lem`, `join-parts-to`, `join-parts`); taking
-- apart what was joined (`parts_join`, `join-join`, `same-join`, `same_parts`); lengths
-- (`join-most`, `join-least`); a text in which nothing joins (`join-none`); joining makes no bad
-- code point (`join-good`).
use mathlib.Core.Path.{◌≡◌, refl, sym, ◌∙◌, ap}
use mathlib.Core.Bool.{false}
use mathlib.Core.List.{List, [], ◌∷◌, ◌++◌, append_assoc, append-nil}
use Prim.Native.Nat.{ℕ, zero, suc, ◌+◌, ◌*◌, ◌≤◌, ◌<◌}
use native.Mathlib.Omega.{arith}
use lib.Dec.{T, eqb}
use lib.ListN.{length}
use borrow.Author.Tests.{ne_eqb, eqb-true, eqb-false}
use Rattle.laws.specs.Lists.{each, All, none as no_more, also}
use Rattle.laws.specs.Machines.{outs, ends, from, Splits, Fence, Wall}
use Rattle.laws.proofs.Bools.{test}
use Rattle.laws.proofs.Lists.{each-each, each-alone, all_of}
use Rattle.laws.proofs.Machines.{from-append, cut, around, same_whole}
use Rattle.answers.specs.Checks.{bad}
use Rattle.letters.specs.Syllables.{one_step, parts_to, full_parts}
use Rattle.joining.specs.declared.role.Role.{Role}
use Rattle.joining.specs.declared.role.Role.TheVariants.{Initial as RoleInitial, Peak, Final, Lv as RoleLv, None}
use Rattle.joining.specs.Roles.{role_of, pair, Hard}
use Rattle.joining.proofs.Roles.{role-between, firm, hard-as}
use Rattle.joining.proofs.Pairs.{pair-as, by-pair, pair-before, two-letters, three-letters, lv-made, lvt-made, pair-good, step-pair, by_parts, pair_parts, no-fourth}
use Rattle.joining.specs.declared.joiner.Open.{Open}
use Rattle.joining.specs.declared.joiner.Open.TheVariants.{Nothing, Initial, Lv}
use Rattle.joining.specs.Joining.{opens_as, opens, held, meets, unless, join_step, join_emit, joiner, join}
use Rattle.joining.specs.Grouping.{Grouped, none, alone, two, three}

-- ---- one step: what is open and c do not join, or they do

module _ (o : Open) (c : ℕ) where
  pub step-apart : meets o c ≡ 0 → join_step o c ≡ opens c
  step-apart z = simp z

  pub emit-apart : meets o c ≡ 0 → join_emit o c ≡ held o ++ unless (opens c) c
  emit-apart z = simp z

  pub step-joined : (meets o c ≡ 0 → ⊥) → join_step o c ≡ opens (meets o c)
  step-joined n = simp (ne_eqb _ _ n)

  pub emit-joined : (meets o c ≡ 0 → ⊥) → join_emit o c ≡ unless (opens (meets o c)) (meets o c)
  emit-joined n = simp (ne_eqb _ _ n)

-- ---- what a code point leaves open

pub opens_as_lem : (c : ℕ) {r : Role} → role_of c ≡ r → opens c ≡ opens_as r c
unfolding opens
opens_as_lem c e = rw e

-- it meets the next as the code point itself would
pub meets-pair : (a b : ℕ) → meets (opens a) b ≡ pair a b
meets-pair a b = rw (opens_as_lem a refl) (by (role_of a) refl)
  where
    by : (r : Role) → role_of a ≡ r → meets (opens_as r a) b ≡ pair a b
    by RoleInitial e = refl
    by Peak e = sym (pair-as a b e refl)
    by Final e = sym (pair-as a b e refl)
    by RoleLv e = refl
    by None e = sym (pair-as a b e refl)

-- a code point is written at once or left open, never both
pub once : (c : ℕ) → unless (opens c) c ++ held (opens c) ≡ c ∷ []
once c = rw (opens_as_lem c refl) (by (role_of c))
  where
    by : (r : Role) → unless (opens_as r c) c ++ held (opens_as r c) ≡ c ∷ []
    by RoleInitial = refl
    by Peak = refl
    by Final = refl
    by RoleLv = refl
    by None = refl

pub stays_open : (a b : ℕ) → (pair a b ≡ 0 → ⊥) → unless (opens a) a ≡ []
stays_open a b n = by-pair a b (λ p q. rw (opens_as_lem a p)) (λ p q. rw (opens_as_lem a p)) (λ z. absurd (n z))

-- ---- the joined text with no machine: two neighbours at the front that join are as their pair; of
-- two that do not, the first stays as it is

pub join_one : (c : ℕ) → join (c ∷ []) ≡ c ∷ []
join_one c = once c

pub join-joined : (a b : ℕ) (x : List ℕ) → (pair a b ≡ 0 → ⊥) → join (a ∷ b ∷ x) ≡ join (pair a b ∷ x)
join-joined a b x n = rw (stays_open a b n, meets-pair a b, ne_eqb _ _ n)

pub join_apart : (a b : ℕ) (x : List ℕ) → pair a b ≡ 0 → join (a ∷ b ∷ x) ≡ a ∷ join (b ∷ x)
join_apart a b x z = rw (meets-pair a b, z, append_assoc (held (opens a)), ← (append_assoc (unless (opens a) a)), once a)

-- what joins with nothing after it stays as it is
pub join-closed : (a : ℕ) (x : List ℕ) → ((b : ℕ) → pair a b ≡ 0) → join (a ∷ x) ≡ a ∷ join x
join-closed a [] h = join_one a
join-closed a (b ∷ x) h = join_apart a b x (h b)

-- ---- two at once, and three: what pairs give, two at a time

pub join-two : (a b : ℕ) → (pair a b ≡ 0 → ⊥) → join (a ∷ b ∷ []) ≡ pair a b ∷ []
join-two a b n = join-joined a b [] n ∙ join_one (pair a b)

pub join-three : (a b c : ℕ) → (pair a b ≡ 0 → ⊥) → (pair (pair a b) c ≡ 0 → ⊥) → join (a ∷ b ∷ c ∷ []) ≡ pair (pair a b) c ∷ []
join-three a b c n m = join-joined a b (c ∷ []) n ∙ join-two (pair a b) c m

-- by numbers
module _ (i p : ℕ) (hi : i < 19) (hp : p < 21) where
  pub join-two-letters : join ((0x1100 + i) ∷ (0x1161 + p) ∷ []) ≡ (0xAC00 + i * 588 + p * 28) ∷ []
  join-two-letters = let e = two-letters i p hi hp in join-two (0x1100 + i) (0x1161 + p) (λ z. omega arith) ∙ cc

  pub join-three-letters : (f : ℕ) → 0 < f → f < 28 → join ((0x1100 + i) ∷ (0x1161 + p) ∷ (0x11A7 + f) ∷ []) ≡ (0xAC00 + i * 588 + p * 28 + f) ∷ []
  join-three-letters f l h =
      let e = two-letters i p hi hp in
      let d = three-letters i p f hi hp l h in
      join-three (0x1100 + i) (0x1161 + p) (0x11A7 + f) (λ z. omega arith) (λ z. omega arith) ∙ cc

-- ---- from the left to the right, and only neighbours

pub left-to-right : (x y : List ℕ) → join (x ++ y) ≡ outs joiner Nothing x ++ from joiner (ends joiner Nothing x) y
left-to-right x y = from-append joiner x y Nothing

-- by cases on whether a and b join
by-joined : {G : Type 0} (a b : ℕ) → (pair a b ≡ 0 → G) → ((pair a b ≡ 0 → ⊥) → G) → G
by-joined a b apart joined = test (eqb (pair a b) 0) (λ e. apart (eqb-true _ _ e)) (λ e. joined (eqb-false _ _ e))

regroup : {x y z : List ℕ} → z ≡ y → Grouped x y → Grouped x z
regroup e g = rw e g

-- ONLY NEIGHBOURS JOIN
pub neighbours : (x : List ℕ) → Grouped x (join x)
neighbours [] = none
neighbours (a ∷ []) = regroup (join_one a) (alone a none)
neighbours (a ∷ b ∷ []) =
    by-joined a b (λ z. regroup (join_apart a b [] z) (alone a (neighbours (b ∷ [])))) (λ n. regroup (join-two a b n) (two a b n none))
neighbours (a ∷ b ∷ c ∷ x) =
    by-joined a b (λ z. regroup (join_apart a b (c ∷ x) z) (alone a (neighbours (b ∷ c ∷ x))))
    (λ n.
    regroup (join-joined a b (c ∷ x) n)
    (by-joined (pair a b) c (λ z. regroup (join_apart (pair a b) c x z) (two a b n (neighbours (c ∷ x))))
    (λ m. regroup (join-joined (pair a b) c x m ∙ join-closed (pair (pair a b) c) x (no-fourth a b c)) (three a b c n m (neighbours x)))))

-- ---- where a text may be cut

meets-none : (c : ℕ) → (role_of c ≡ Peak → ⊥) → (role_of c ≡ Final → ⊥) → (o : Open) → meets o c ≡ 0
meets-none c m n Nothing = refl
meets-none c m n (Initial i) = pair-before i c m n
meets-none c m n (Lv s) = pair-before s c m n

-- EVERY CODE POINT BUT A PEAK OR A FINAL IS A FENCE
pub fence : (c : ℕ) → (role_of c ≡ Peak → ⊥) → (role_of c ≡ Final → ⊥) → Fence joiner c
fence c m n = record { forgets = λ o. step-apart o c (meets-none c m n o); closes = λ o. emit-apart o c (meets-none c m n o) }

pub join-cut : (c : ℕ) (y : List ℕ) → (role_of c ≡ Peak → ⊥) → (role_of c ≡ Final → ⊥) → Splits join (c ∷ y)
join-cut c y m n = cut joiner c y (fence c m n)

fence-as : (c : ℕ) {r : Role} → role_of c ≡ r → T (firm r) → Fence joiner c
fence-as c e t = let h = hard-as c e t in fence c h.0 h.1

-- what has no role is a wall, and so is U+FFFD
pub none-wall : (c : ℕ) → role_of c ≡ None → Wall joiner c
none-wall c e = let f = fence-as c e tt in record { resets = λ o. f.forgets o ∙ opens_as_lem c e; closes = f.closes }

mark-role : role_of 0xFFFD ≡ None
mark-role = role-between 0xFFFD 0xFFFD 0xFFFD tt (omega arith) (omega arith)

pub mark-wall : Wall joiner 0xFFFD
mark-wall = none-wall 0xFFFD mark-role

-- around it: what all before it joins to, itself, what all after it joins to
pub mark-around : (x y : List ℕ) → join (x ++ 0xFFFD ∷ y) ≡ join x ++ 0xFFFD ∷ join y
mark-around x y = around joiner 0xFFFD x y mark-wall ∙ rw (opens_as_lem 0xFFFD mark-role)

-- ---- joining what was taken apart

-- from every state, reading two that join does what reading their pair does: the first of them is a
-- fence, and so is their pair
module _ (a b : ℕ) (n : pair a b ≡ 0 → ⊥) where
  first-fence : Fence joiner a
  first-fence = by-pair a b (λ p q. fence-as a p tt) (λ p q. fence-as a p tt) (λ z. absurd (n z))

  pair-fence : Fence joiner (pair a b)
  pair-fence = by-pair a b (λ p q. fence-as (pair a b) (lv-made a b p q) tt) (λ p q. fence-as (pair a b) (lvt-made a b p q) tt) (λ z. absurd (n z))

  pair-outs : (o : Open) → outs joiner o (a ∷ b ∷ []) ≡ join_emit o (pair a b)
  pair-outs o =
      rw (first-fence.closes o, first-fence.forgets o, pair-fence.closes o, stays_open a b n, meets-pair a b, ne_eqb _ _ n) (simp append-nil)

  pair_ends : (o : Open) → ends joiner o (a ∷ b ∷ []) ≡ join_step o (pair a b)
  pair_ends o = rw (first-fence.forgets o, pair-fence.forgets o, meets-pair a b, ne_eqb _ _ n)

-- so the joiner sees no difference between a code point and its one step
step-outs : (o : Open) (c : ℕ) → outs joiner o (one_step c) ≡ join_emit o c
step-outs o c = by_parts c (λ e. rw (e, append-nil)) (λ a b e n. rw (e, ← (step-pair a b c e)) (pair-outs a b n o))

step-ends : (o : Open) (c : ℕ) → ends joiner o (one_step c) ≡ join_step o c
step-ends o c = by_parts c (λ e. rw e) (λ a b e n. rw (e, ← (step-pair a b c e)) (pair_ends a b n o))

pub join_step_lem : (x : List ℕ) → join (each one_step x) ≡ join x
join_step_lem x = same_whole joiner one_step step-outs step-ends x Nothing

-- nor between a code point and its parts, down to any depth
pub join-parts-to : (d : ℕ) (x : List ℕ) → join (each (parts_to d) x) ≡ join x
unfolding parts_to
join-parts-to zero x = ap join (each-alone (parts_to 0) (all_of (λ c. refl) x))
join-parts-to (suc d) x = ap join (sym (each-each (parts_to d) one_step x)) ∙ join-parts-to d (each one_step x) ∙ join_step_lem x

-- THE FULL PARTS OF A TEXT JOIN TO WHAT THE TEXT JOINS TO
pub join-parts : (x : List ℕ) → join (full_parts x) ≡ join x
join-parts x = join-parts-to 2 x

-- ---- taking apart what was joined

grouped-parts : {x y : List ℕ} → Grouped x y → full_parts y ≡ full_parts x
unfolding each
grouped-parts none = refl
grouped-parts (alone a g) = rw (grouped-parts g)
grouped-parts (two a b n g) = rw (grouped-parts g, pair_parts a b n, append_assoc)
grouped-parts (three a b c n m g) = rw (grouped-parts g, pair_parts (pair a b) c m, pair_parts a b n) (simp append_assoc)

-- JOINING CHANGES NO FULL PARTS
pub parts_join : (x : List ℕ) → full_parts (join x) ≡ full_parts x
parts_join x = grouped-parts (neighbours x)

pub join-join : (x : List ℕ) → join (join x) ≡ join x
join-join x = sym (join-parts (join x)) ∙ ap join (parts_join x) ∙ join-parts x

-- two texts join to the same exactly when they have the same full parts
pub same-join : (x y : List ℕ) → join x ≡ join y → full_parts x ≡ full_parts y
same-join x y e = sym (parts_join x) ∙ ap full_parts e ∙ parts_join y

pub same_parts : (x y : List ℕ) → full_parts x ≡ full_parts y → join x ≡ join y
same_parts x y e = sym (join-parts x) ∙ ap join e ∙ join-parts y

-- ---- how long: at most as long, at least a third

grouped-most : {x y : List ℕ} → Grouped x y → length y ≤ length x
grouped-most none = omega arith
grouped-most (alone a g) = omega (arith, grouped-most g)
grouped-most (two a b n g) = omega (arith, grouped-most g)
grouped-most (three a b c n m g) = omega (arith, grouped-most g)

grouped-least : {x y : List ℕ} → Grouped x y → length x ≤ 3 * length y
grouped-least none = omega arith
grouped-least (alone a g) = omega (arith, grouped-least g)
grouped-least (two a b n g) = omega (arith, grouped-least g)
grouped-least (three a b c n m g) = omega (arith, grouped-least g)

pub join-most : (x : List ℕ) → length (join x) ≤ length x
join-most x = grouped-most (neighbours x)

pub join-least : (x : List ℕ) → length x ≤ 3 * length (join x)
join-least x = grouped-least (neighbours x)

-- where there is no peak and no final, nothing joins
pub join-none : {x : List ℕ} → All Hard x → join x ≡ x
join-none no_more = refl
join-none (also {a = a} h no_more) = join_one a
join-none (also {a = a} h (also {a = b} {x = x} k p)) = join_apart a b x (pair-before a b k.0 k.1) ∙ ap (λ l. a ∷ l) (join-none (also k p))

-- ---- joining makes no bad code point

grouped-good : {x y : List ℕ} → Grouped x y → All (λ c. bad c ≡ false) x → All (λ c. bad c ≡ false) y
grouped-good none no_more = no_more
grouped-good (alone a g) (also h p) = also h (grouped-good g p)
grouped-good (two a b n g) (also h (also k p)) = also (pair-good a b n) (grouped-good g p)
grouped-good (three a b c n m g) (also h (also k (also l p))) = also (pair-good (pair a b) c m) (grouped-good g p)

pub join-good : (x : List ℕ) → All (λ c. bad c ≡ false) x → All (λ c. bad c ≡ false) (join x)
join-good x p = grouped-good (neighbours x) p
