-- Machines: a machine reads a list of letters from the left, one by one, carries a state, and
-- writes a list; at the end it writes what is still open. And where what a machine reads may be cut
-- in two. Any types of states and letters; the laws are in proofs/Machines. This is no loop over a
-- buffer.
--
-- In order: `Machine`; what it writes and where it ends on the way (`outs`, `ends`); all that it
-- writes (`from`, `whole`); a place to cut (`Splits`); a letter before which every text may be cut
-- (`Fence`); a fence that leaves nothing open (`Wall`); one machine that reads what another writes
-- (`chained`), or the parts of each letter (`fed`).
use Rattle.std.specs.Prelude.{◌≡◌, List, [], ◌∷◌, ◌++◌}

pub record Machine (S A B : Type 0) : Type 0 where
  pub start : S
  -- the next state, and what is written on the way to it
  pub step : S → A → S
  pub emit : S → A → List B
  -- what is still open in a state, written out
  pub flush : S → List B

-- what is written while x is read from the state s
abbrev pub outs : {S A B : Type 0} → Machine S A B → S → List A → List B
outs m s [] = []
outs m s (a ∷ x) = m.emit s a ++ outs m (m.step s a) x

-- the state after that
abbrev pub ends : {S A B : Type 0} → Machine S A B → S → List A → S
ends m s [] = s
ends m s (a ∷ x) = ends m (m.step s a) x

-- all that is written if x is read from the state s and then there is no more
abbrev pub from : {S A B : Type 0} → Machine S A B → S → List A → List B
from m s [] = m.flush s
from m s (a ∷ x) = m.emit s a ++ from m (m.step s a) x

abbrev pub whole : {S A B : Type 0} → Machine S A B → List A → List B
whole m x = from m m.start x

-- f may be cut before z: what stands before z changes nothing in what f makes of z, and z nothing
-- in what f makes of that
abbrev pub Splits : {A B : Type 0} → (List A → List B) → List A → Type 0
Splits {A} f z = (x : List A) → f (x ++ z) ≡ f x ++ f z

-- a fence: from every state it writes out what is open and goes on as from the start
pub record Fence {S A B : Type 0} (m : Machine S A B) (a : A) : Type 0 where
  pub forgets : (s : S) → m.step s a ≡ m.step m.start a
  pub closes : (s : S) → m.emit s a ≡ m.flush s ++ m.emit m.start a

-- a wall: a fence that leaves nothing open
pub record Wall {S A B : Type 0} (m : Machine S A B) (a : A) : Type 0 where
  pub resets : (s : S) → m.step s a ≡ m.start
  pub closes : (s : S) → m.emit s a ≡ m.flush s ++ m.emit m.start a

-- two machines chained: n reads what m writes
abbrev pub chained : {S T A B C : Type 0} → Machine S A B → Machine T B C → Machine (S × T) A C
chained m n = record {
  start = (m.start, n.start);
  step = λ u a. (m.step u.0 a, ends n u.1 (m.emit u.0 a));
  emit = λ u a. outs n u.1 (m.emit u.0 a);
  flush = λ u. from n u.1 (m.flush u.0);
}

-- the machine m where it reads, for each letter a, the letters f a
abbrev pub fed : {S A B C : Type 0} → (A → List B) → Machine S B C → Machine S A C
fed f m = record { start = m.start; step = λ s a. ends m s (f a); emit = λ s a. outs m s (f a); flush = m.flush }
