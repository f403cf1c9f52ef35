-- What helpers promise. In order: a row as one number (`Packs`); the spans in which a cluster is
-- looked for (`In`, `Covers`), what the search answers (`Searched`); gathering as a
-- machine that carries the letters not yet decided, and a step of it; joining after it, and the
-- parts of each code point before it, as one machine (`coded`); what is written with both states by
-- value (`Joined`, `Turned`).
use Rattle.std.specs.Prelude.{Option as Answer, Some, None, ◌≡◌, false, ◌⊎◌, List, [], ◌∷◌, ◌++◌, ℕ, ◌%◌, ◌≤◌, ◌<◌, length}
use Rattle.std.proofs.Math.Option.{Option, none, some}
use Rattle.laws.specs.Lists.{All}
use Rattle.laws.specs.Machines.{Machine, chained, fed, outs, ends}
use Rattle.joining.specs.Joining.{joiner}
use Rattle.joining.specs.Answers.{emitted}
use Rattle.joining.specs.declared.joiner.Open.{Open}
use Rattle.clusters.specs.Table.{letters_of, has_row, cluster_row}
use Rattle.clusters.specs.Simple.{simple_of}
use Rattle.clusters.specs.Rows.{unpacked, row_by}
use Rattle.clusters.specs.Gathering.{two_of, three_of, longest}
use Rattle.clusters.specs.declared.table.Row.{Row}
use Rattle.clusters.specs.declared.gather.Span.{Span}
use Rattle.clusters.specs.declared.gather.Pending.{Pending}
use Rattle.clusters.specs.declared.gather.Pending.TheVariants.{Nothing, One, Two}
use Rattle.clusters.specs.declared.gather.Gathered.{Gathered}
use Rattle.laws.specs.Writing.{Room, Wrote}
use Rattle.clusters.specs.declared.gathered.Writer.{Writer}

-- ---- a row as one number

-- a number unpacks to the row of the code, and so has a first letter; or there is none, and the code
-- has no row
pub data Packs (c : ℕ) : Answer ℕ → Type 0 where
  packs : {n : ℕ} → (n % 512 ≡ 0 → ⊥) → unpacked n ≡ cluster_row c → Packs c (Some n)
  packs-none : has_row c ≡ false → Packs c None

-- ---- the search

-- a code of the span: in 01's table, or among the letters outside it
abbrev pub In : Span → ℕ → Type 0
In span k = ((span.low ≤ k) × (k < span.high)) ⊎ ((span.outer ≤ k) × (k < span.end))

-- a letter in the part of the span that is in 01's table
abbrev pub Letter : Span → ℕ → Type 0
Letter span l = (span.low ≤ l) × (l < span.high)

-- every cluster that begins with these letters stands in the span, and so do the rest of its
-- letters
abbrev pub Covers : List ℕ → Span → Type 0
Covers front span = (k : ℕ) (rest : List ℕ) → letters_of k ≡ front ++ rest → 1 < length (letters_of k) → In span k × All (Letter span) rest

-- a code has the row; or there is none, and no code for which P holds has it
pub data Searched (row : Row) (P : ℕ → Type 0) : Answer ℕ → Type 0 where
  hit : {k : ℕ} → row_by k ≡ row → Searched row P (Some k)
  miss : ((k : ℕ) → P k → row_by k ≡ row → ⊥) → Searched row P None

-- of the codes from low on, before high; and of a whole span
abbrev pub SearchedFrom : Row → ℕ → ℕ → Answer ℕ → Type 0
SearchedFrom row low high r = Searched row (λ k. (low ≤ k) × (k < high)) r

abbrev pub SearchedIn : Row → Span → Answer ℕ → Type 0
SearchedIn row span r = Searched row (In span) r

-- ---- gathering as a machine: its state is the letters not yet decided

abbrev pub gather_flush : Pending → List ℕ
gather_flush Nothing = []
gather_flush (One a) = a ∷ []
gather_flush (Two a b) = longest none (two_of a b) a [] [] (b ∷ [])

-- three letters a, b, c decide what becomes of a; the rest stays undecided
abbrev pub undecided : Option ℕ → Option ℕ → ℕ → ℕ → Pending
undecided (some k) pair b c = Nothing
undecided none (some k) b c = One c
undecided none none b c = Two b c

abbrev pub gather_step : Pending → ℕ → Pending
gather_step Nothing c = One c
gather_step (One a) c = Two a c
gather_step (Two a b) c = undecided (three_of a b c) (two_of a b) b c

abbrev pub gather_emit : Pending → ℕ → List ℕ
gather_emit Nothing c = []
gather_emit (One a) c = []
gather_emit (Two a b) c = longest (three_of a b c) (two_of a b) a [] [] []

abbrev pub gatherer : Machine Pending ℕ ℕ
gatherer = record { start = Nothing; step = gather_step; emit = gather_emit; flush = gather_flush }

-- from what is not decided and the next letter: what is not decided then, and what is written
pub record GatherStepped (p : Pending) (c : ℕ) (r : Gathered) : Type 0 where
  pub pends : r.pending ≡ gather_step p c
  pub writes : emitted r.out ≡ gather_emit p c

-- ---- with joining after it, and the letters of each code point before it

abbrev pub gathering : Machine (Pending × Open) ℕ ℕ
gathering = chained gatherer joiner

abbrev pub coded : Machine (Pending × Open) ℕ ℕ
coded = fed simple_of gathering

-- ---- what is written with both states, which go from function to function by value

abbrev pub state_of : Writer → Pending × Open
state_of w = (w.pending, w.joiner.state)

-- there is room for what the joiner writes of the codes; for what both machines write of the
-- letters; for what is still open
abbrev pub JoinRoom : Writer → List ℕ → List ℕ → Type 0
JoinRoom w codes out = Room out w.at (outs joiner w.joiner.state codes)

abbrev pub TurnRoom : Writer → List ℕ → List ℕ → Type 0
TurnRoom w letters out = Room out w.at (outs gathering (state_of w) letters)

abbrev pub RestRoom : Writer → List ℕ → Type 0
RestRoom w out = Room out w.at (gathering.flush (state_of w))

-- the joiner has taken the codes, and what it writes stands in the buffer
pub record Joined (w : Writer) (codes out : List ℕ) (r : Writer) (out' : List ℕ) : Type 0 where
  pub pends : r.pending ≡ w.pending
  pub opens : r.joiner.state ≡ ends joiner w.joiner.state codes
  pub writes : Wrote out w.at (outs joiner w.joiner.state codes) r.at out'

-- and so both machines the letters
pub record Turned (w : Writer) (letters out : List ℕ) (r : Writer) (out' : List ℕ) : Type 0 where
  pub goes : state_of r ≡ ends gathering (state_of w) letters
  pub writes : Wrote out w.at (outs gathering (state_of w) letters) r.at out'
