-- What the loops over a text ask, and how much a code point gives: fourteen places have room for
-- it.
use mathlib.Core.Path.{◌≡◌, refl, ◌∙◌, ap}
use mathlib.Core.Bool.{Bool, true, false, cond}
use mathlib.Core.Option.{Option, none, some}
use mathlib.Core.List.{List, [], ◌∷◌, ◌++◌}
use Prim.Native.Nat.{ℕ, ◌+◌, ◌≤◌, ◌<◌}
use native.Mathlib.Omega.{arith}
use lib.Dec.{eqb}
use lib.ListN.{length, get_or, drop, length-append}
use Rattle.laws.specs.Machines.{outs, ends, from}
use Rattle.laws.specs.Writing.{Room, Wrote}
use Rattle.laws.proofs.Machines.{from-outs, outs-most}
use Rattle.laws.proofs.Filling.{Piece, machine-piece, machine-last, Filling, filling-begin}
use Rattle.joining.specs.Joining.{held, unless, opens, meets, join_emit, joiner}
use Rattle.joining.specs.declared.joiner.Open.{Open}
use Rattle.joining.specs.declared.joiner.Open.TheVariants.{Nothing as NothingOpen, Initial, Lv}
use Rattle.clusters.specs.Simple.{simple_of}
use Rattle.clusters.specs.Gathering.{two_of, three_of, longest, gathered}
use Rattle.clusters.specs.Inner.{gather_flush, gather_emit, gathering, coded, state_of, Turned}
use Rattle.clusters.specs.declared.gather.Pending.{Pending}
use Rattle.clusters.specs.declared.gather.Pending.TheVariants.{Nothing, One, Two}
use Rattle.clusters.specs.declared.gathered.Writer.{Writer}
use Rattle.clusters.proofs.SimpleForm.{simple-of-most}
use Rattle.clusters.proofs.GatheredForm.{gathered-coded}

-- ---- the loops over a text

pub filling-start : {whole left : List ℕ} (out : List ℕ) {k : ℕ} → left ≡ whole → k ≡ 0 → Filling whole left out out k
filling-start out e z = rw z (filling-begin out e)

pub gathered-begin : (text : List ℕ) (u : Pending × Open) → u ≡ (Nothing, NothingOpen) → from coded u text ≡ gathered text
gathered-begin text u e = rw e (gathered-coded text)

module _ (text : List ℕ) (i : ℕ) (w : Writer) where
  pub gathered_next : i < length text → Piece (from coded (state_of w) (drop i text)) (outs gathering (state_of w) (simple_of (get_or text i 0)))
      (from coded (ends gathering (state_of w) (simple_of (get_or text i 0))) (drop (i + 1) text))
  gathered_next h = machine-piece coded 0 text i h refl refl

  pub gathered-piece : {r : Writer} {out out' : List ℕ} → i < length text → Turned w (simple_of (get_or text i 0)) out r out'
      → Piece (from coded (state_of w) (drop i text)) (outs gathering (state_of w) (simple_of (get_or text i 0))) (from coded (state_of r) (drop (i + 1) text))
  gathered-piece h t = machine-piece coded 0 text i h t.goes refl

  pub gathered-last : length text ≤ i → Piece (from coded (state_of w) (drop i text)) (gathering.flush (state_of w)) []
  gathered-last h = machine-last coded text i h refl

-- ---- how much a letter gives: at most one code, and of each code the joiner writes at most two

held-most : (o : Open) → length (held o) ≤ 1
held-most NothingOpen = omega arith
held-most (Initial i) = omega arith
held-most (Lv s) = omega arith

unless-most : (o : Open) (c : ℕ) → length (unless o c) ≤ 1
unless-most NothingOpen c = omega arith
unless-most (Initial i) c = omega arith
unless-most (Lv s) c = omega arith

join-emit-most : (o : Open) (c : ℕ) → length (join_emit o c) ≤ 2
join-emit-most o c = by (eqb (meets o c) 0)
  where
    by : (b : Bool) → length (cond b (held o ++ unless (opens c) c) (unless (opens (meets o c)) (meets o c))) ≤ 2
    by true = simp length-append (omega (arith, held-most o, unless-most (opens c) c))
    by false = omega (arith, unless-most (opens (meets o c)) (meets o c))

gather-emit-most : (p : Pending) (c : ℕ) → length (gather_emit p c) ≤ 1
gather-emit-most Nothing c = omega arith
gather-emit-most (One a) c = omega arith
gather-emit-most (Two a b) c = by (three_of a b c) (two_of a b)
  where
    by : (o p : Option ℕ) → length (longest o p a [] [] []) ≤ 1
    by (some k) p = omega arith
    by none (some k) = omega arith
    by none none = omega arith

gather-flush-most : (p : Pending) → length (gather_flush p) ≤ 2
gather-flush-most Nothing = omega arith
gather-flush-most (One a) = omega arith
gather-flush-most (Two a b) = by (two_of a b)
  where
    by : (o : Option ℕ) → length (longest none o a [] [] (b ∷ [])) ≤ 2
    by none = omega arith
    by (some k) = omega arith

emit-most : (u : Pending × Open) (c : ℕ) → length (gathering.emit u c) ≤ 2
emit-most u c = omega (arith, outs-most joiner 2 join-emit-most (gather_emit u.0 c) u.1, gather-emit-most u.0 c)

-- so fourteen places have room for what a code point gives, and for the end
module _ (w : Writer) {out : List ℕ} (size : length out ≡ 14) (front : w.at ≡ 0) where
  pub scratch-room : (c : ℕ) → Room out w.at (outs gathering (state_of w) (simple_of c))
  scratch-room c = record { fits = omega (arith, outs-most gathering 2 emit-most (simple_of c) (state_of w), simple-of-most c, size, front) }

  pub scratch-rest : Room out w.at (gathering.flush (state_of w))
  scratch-rest =
      let y = gather_flush w.pending in
      let all : length (gathering.flush (state_of w)) ≡ length (outs joiner w.joiner.state y) + length (held (ends joiner w.joiner.state y)) =
      ap length (from-outs joiner y w.joiner.state) ∙ length-append (outs joiner w.joiner.state y) (held (ends joiner w.joiner.state y)) in
      record {
        fits =
            omega (
              arith,
              all,
              outs-most joiner 2 join-emit-most y w.joiner.state,
              held-most (ends joiner w.joiner.state y),
              gather-flush-most w.pending,
              size,
              front,
            );
      }

-- what was written from the front on is as long as the index after it
pub wrote-size : {out xs out' : List ℕ} {at r : ℕ} → at ≡ 0 → Wrote out at xs r out' → r ≡ length xs
wrote-size e w = omega (arith, w.after)

pub turned-length : {w : Writer} {x out : List ℕ} {r : Writer} {out' : List ℕ} → w.at ≡ 0 → Turned w x out r out'
    → r.at ≡ length (outs gathering (state_of w) x)
turned-length e t = wrote-size e t.writes
