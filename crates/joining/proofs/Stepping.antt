-- A text's pieces, as the loops over it ask for them, and that the readings of a step's answers are
-- injective.
use mathlib.Core.Path.{◌≡◌, refl, sym, ◌∙◌}
use mathlib.Core.List.{List, []}
use Prim.Native.Nat.{ℕ, ◌+◌, ◌≤◌, ◌<◌}
use lib.ListN.{length, get_or, drop}
use Rattle.laws.specs.Machines.{from}
use Rattle.laws.proofs.Filling.{Piece, machine-piece, machine-last}
use Rattle.joining.specs.declared.joiner.Open.{Open}
use Rattle.joining.specs.declared.joiner.Open.TheVariants.{Nothing}
use Rattle.joining.specs.declared.joiner.Emitted.{Emitted}
use Rattle.joining.specs.declared.joiner.Emitted.TheVariants.{Empty, One, Two}
use Rattle.joining.specs.declared.joiner.Outcome.{Outcome}
use Rattle.joining.specs.Joining.{held, joiner, join}
use Rattle.joining.specs.Answers.{emitted, Stepped}

-- ---- what the loops over a text ask

pub join-begin : (text : List ℕ) {o : Open} → o ≡ Nothing → from joiner o text ≡ join text
join-begin text e = rw e

pub join-piece : (text : List ℕ) (i : ℕ) (o : Open) {r : Outcome} → i < length text → Stepped o (get_or text i 0) r
    → Piece (from joiner o (drop i text)) (emitted r.out) (from joiner r.joiner.state (drop (i + 1) text))
join-piece text i o h s = machine-piece joiner 0 text i h s.opens s.writes

pub join_last : (text : List ℕ) (i : ℕ) (o : Open) {xs : List ℕ} → length text ≤ i → xs ≡ held o → Piece (from joiner o (drop i text)) xs []
join_last text i o h q = machine-last joiner text i h q

-- ---- the readings

pub emitted-injective : (a b : Emitted) → emitted a ≡ emitted b → a ≡ b
emitted-injective Empty Empty e = refl
emitted-injective Empty (One b) e = cc
emitted-injective Empty (Two b c) e = cc
emitted-injective (One a) Empty e = cc
emitted-injective (One a) (One b) e = cc
emitted-injective (One a) (Two b c) e = cc
emitted-injective (Two a b) Empty e = cc
emitted-injective (Two a b) (One c) e = cc
emitted-injective (Two a b) (Two c d) e = cc

-- any two steps that the contract admits are equal
pub stepped-unique : (o : Open) (c : ℕ) (r s : Outcome) → Stepped o c r → Stepped o c s → (r.joiner.state ≡ s.joiner.state) × (r.out ≡ s.out)
stepped-unique o c r s p q = (p.opens ∙ sym q.opens, emitted-injective r.out s.out (p.writes ∙ sym q.writes))
