-- The normal forms NFD and NFC over any character database: The Unicode Standard 15.0, chapter 3,
-- sections 3.7, 3.11 and 3.12, line by line. A number D.. or R.. is that of the Standard's
-- definition or rule, which stands here in other words; a sequence of characters is a list of code
-- points.
--
-- In order: the database; decomposition (`applied`, `decomposed`); canonical ordering
-- (`reorderable`; D109 as a property, `Reordered`, and as a function, `ordered`); canonical
-- composition (`blocked`, `last_starter`, `combined`, `composed`); the forms `nfd` and `nfc`; what
-- is defined by them (`Decomposable`, `Equivalent`, `Primary`); and what a database's `depth` and
-- `composite` have to be (`Sound`, `Exact`).
use Rattle.std.specs.Prelude.{◌≡◌, Bool, true, false, cond, ◌&&◌, ◌||◌, List, [], ◌∷◌, ◌++◌, ℕ, zero, suc, leb, ltb, eqb}
use Rattle.std.proofs.Math.Option.{Option, none, some}
use Rattle.laws.specs.Lists.{each}

-- ---- the character database

pub record Database : Type 0 where
  -- D104: the canonical combining class
  pub ccc : ℕ → ℕ
  -- D62 and section 3.12: the canonical decomposition mapping; a code point that has none is mapped
  -- to itself, as is the UCD's default
  pub mapping : ℕ → List ℕ
  -- how often the mappings are applied until nothing can be decomposed further (`Sound`, below)
  pub depth : ℕ
  -- D113: the property Full_Composition_Exclusion
  pub excluded : ℕ → Bool
  -- D117, R2: the primary composite to which <L, C> is canonically equivalent, if there is one
  -- (`Sound`, below)
  pub composite : ℕ → ℕ → Option ℕ

-- D107, starter: of combining class 0
abbrev pub starter : Database → ℕ → Bool
starter db c = eqb (db.ccc c) 0

-- ---- 3.7, decomposition

-- D68, its first half: the mappings are applied, and applied again to what they give
abbrev pub applied : Database → ℕ → ℕ → List ℕ
applied db zero c = c ∷ []
applied db (suc depth) c = each (λ p. applied db depth p) (db.mapping c)

abbrev pub decomposed : Database → List ℕ → List ℕ
decomposed db x = each (λ c. applied db db.depth c) x

-- ---- 3.11, canonical ordering

-- D108, reorderable pair: neighbours A and B with ccc(A) > ccc(B) > 0
abbrev pub reorderable : Database → ℕ → ℕ → Bool
reorderable db a b = ltb (db.ccc b) (db.ccc a) && ltb 0 (db.ccc b)

-- D109, canonical ordering algorithm, as a property: as long as there are reorderable pairs, one of
-- them, no matter which, changes places
pub data Exchange (db : Database) : List ℕ → List ℕ → Type 0 where
  here : {a b : ℕ} {x : List ℕ} → reorderable db a b ≡ true → Exchange db (a ∷ b ∷ x) (b ∷ a ∷ x)
  later : {a : ℕ} {x y : List ℕ} → Exchange db x y → Exchange db (a ∷ x) (a ∷ y)

pub data Exchanges (db : Database) : List ℕ → List ℕ → Type 0 where
  stays : {x : List ℕ} → Exchanges db x x
  first : {x y z : List ℕ} → Exchange db x y → Exchanges db y z → Exchanges db x z

-- a and the first character of x are no reorderable pair; no two neighbours of x are
abbrev pub NoPairWith : Database → ℕ → List ℕ → Type 0
NoPairWith db a [] = Unit {0}
NoPairWith db a (b ∷ x) = reorderable db a b ≡ false

abbrev pub NoPair : Database → List ℕ → Type 0
NoPair db [] = Unit {0}
NoPair db (a ∷ x) = NoPairWith db a x × NoPair db x

-- y is what D109 makes of x
pub record Reordered (db : Database) (x y : List ℕ) : Type 0 where
  pub exchanged : Exchanges db x y
  pub no_more : NoPair db y

-- D109 as a function: a character that comes in front of an ordered sequence changes places with
-- its next neighbour as long as the two are a reorderable pair. This is the one y with Reordered db
-- x y (`ordered-reordered` and `reordered-ordered` of proofs/Ordering)
abbrev pub moved : Database → ℕ → List ℕ → List ℕ
moved db a [] = a ∷ []
moved db a (b ∷ x) = cond (reorderable db a b) (b ∷ moved db a x) (a ∷ b ∷ x)

abbrev pub ordered : Database → List ℕ → List ℕ
ordered db [] = []
ordered db (a ∷ x) = moved db a (ordered db x)

-- ---- 3.11, canonical composition

abbrev pub exists : (ℕ → Bool) → List ℕ → Bool
exists f [] = false
exists f (b ∷ x) = f b || exists f x

-- D115: B between A and C blocks C if ccc(B) = 0 or ccc(B) ≥ ccc(C); C is blocked from A if
-- ccc(A) = 0 and some B between them blocks it
abbrev pub blocks : Database → ℕ → ℕ → Bool
blocks db c b = eqb (db.ccc b) 0 || leb (db.ccc c) (db.ccc b)

unfoldable pub blocked : Database → ℕ → List ℕ → ℕ → Bool
blocked db a between c = eqb (db.ccc a) 0 && exists (λ b. blocks db c b) between

-- D117, R1: in the sequence before C the last starter L is looked for, with what stands before it
-- and what stands between it and C
pub data Sought : Type 0 where
  nowhere : Sought
  last : List ℕ → ℕ → List ℕ → Sought

abbrev pub further : Database → ℕ → List ℕ → Sought → Sought
further db a x (last before l between) = last (a ∷ before) l between
further db a x nowhere = cond (starter db a) (last [] a x) nowhere

abbrev pub last_starter : Database → List ℕ → Sought
last_starter db [] = nowhere
last_starter db (a ∷ x) = further db a x (last_starter db x)

-- R1 as a property: L is a starter of x with no starter after it, or x has no starter
-- (`last-starter-found` of proofs/Composing)
abbrev pub Found : Database → List ℕ → Sought → Type 0
Found db x nowhere = exists (starter db) x ≡ false
Found db x (last before l between) = (x ≡ before ++ l ∷ between) × (starter db l ≡ true) × (exists (starter db) between ≡ false)

-- D117, R2: if there is such an L from which C is not blocked, and <L, C> has a primary
-- composite P, there P stands for L, and C falls away; else C stays, after the sequence x before it
abbrev pub with_composite : List ℕ → ℕ → List ℕ → List ℕ → Option ℕ → List ℕ
with_composite x c before between (some p) = before ++ p ∷ between
with_composite x c before between none = x ++ c ∷ []

abbrev pub unblocked : Database → List ℕ → ℕ → Sought → List ℕ
unblocked db x c nowhere = x ++ c ∷ []
unblocked db x c (last before l between) = cond (blocked db l between c) (x ++ c ∷ []) (with_composite x c before between (db.composite l c))

abbrev pub combined : Database → List ℕ → ℕ → List ℕ
combined db x c = unblocked db x c (last_starter db x)

-- D117, canonical composition algorithm: from the second character on, each in its turn is C
abbrev pub proceeding : Database → List ℕ → List ℕ → List ℕ
proceeding db x [] = x
proceeding db x (c ∷ y) = proceeding db (combined db x c) y

abbrev pub composed : Database → List ℕ → List ℕ
composed db [] = []
composed db (a ∷ y) = proceeding db (a ∷ []) y

-- ---- 3.11, the forms

-- D118, NFD: D68 as a whole, the mappings applied to the end and what they give put into canonical
-- order
abbrev pub nfd : Database → List ℕ → List ℕ
nfd db x = ordered db (decomposed db x)

-- D120, NFC: D117 after that
abbrev pub nfc : Database → List ℕ → List ℕ
nfc db x = composed db (nfd db x)

-- ---- what is defined by the forms

-- D69, canonical decomposable character: D68 changes it
abbrev pub Decomposable : Database → ℕ → Type 0
Decomposable db c = nfd db (c ∷ []) ≡ c ∷ [] → ⊥

-- D70, canonical equivalent sequences: D68 makes the same of both
abbrev pub Equivalent : Database → List ℕ → List ℕ → Type 0
Equivalent db x y = nfd db x ≡ nfd db y

-- D114, primary composite: decomposable by D69, and not excluded by D113
pub record Primary (db : Database) (p : ℕ) : Type 0 where
  pub decomposable : Decomposable db p
  pub admitted : db.excluded p ≡ false

-- ---- what `depth` and `composite` have to be

pub record Sound (db : Database) : Type 0 where
  -- D68: the mappings have been applied to the end
  pub full : (c : ℕ) → each db.mapping (applied db db.depth c) ≡ applied db db.depth c
  -- D117, R2: what `composite` gives is a primary composite and equivalent to <L, C>
  pub primary : (l c p : ℕ) → db.composite l c ≡ some p → Primary db p
  pub equivalent : (l c p : ℕ) → db.composite l c ≡ some p → Equivalent db (p ∷ []) (l ∷ c ∷ [])
  -- and no primary composite with the mapping <L, C> is left out
  pub listed : (l c p : ℕ) → Primary db p → db.mapping p ≡ l ∷ c ∷ [] → db.composite l c ≡ some p

-- more than that: no primary composite equivalent to <L, C> is left out, whatever its mapping
abbrev pub Exact : Database → Type 0
Exact db = (l c p : ℕ) → Primary db p → Equivalent db (p ∷ []) (l ∷ c ∷ []) → db.composite l c ≡ some p
