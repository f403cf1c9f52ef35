-- What the code has at each return of the functions that write what a code point gives. In order: a
-- code, taken by the joiner; letters, taken by both machines (`Going`: what the loop over a code
-- point's letters keeps); what is still open at the end.
use mathlib.Core.Path.{◌≡◌, refl, sym, ◌∙◌, ap}
use mathlib.Core.List.{List, [], ◌∷◌, ◌++◌, append-nil, append_assoc}
use Prim.Native.Nat.{ℕ, ◌≤◌}
use native.Mathlib.Omega.{arith}
use lib.ListN.{length, take, drop}
use lib.Seq.{take-append_seam}
use Rattle.laws.specs.Machines.{Machine, outs, ends}
use Rattle.laws.specs.Writing.{Room, Wrote}
use Rattle.laws.proofs.Machines.{outs-append, ends-append, from-outs}
use Rattle.laws.proofs.Filling.{Piece, wrote_none, wrote-two, room-first, room-second, filling-none, filling-last}
use Rattle.joining.specs.Joining.{held, joiner}
use Rattle.joining.specs.Answers.{emitted, Stepped}
use Rattle.joining.specs.declared.joiner.Outcome.{Outcome}
use Rattle.clusters.specs.Inner.{gather_flush, gathering, state_of, Joined, Turned}
use Rattle.clusters.specs.declared.gathered.Writer.{Writer}

-- ---- what a machine writes of two parts of a text, and of one letter

-- u is the state after x
module _ {S A B : Type 0} (m : Machine S A B) (s : S) where
  outs-piece : {u : S} (x y : List A) → u ≡ ends m s x → Piece (outs m s (x ++ y)) (outs m s x) (outs m u y)
  outs-piece x y e = record { eq = rw e (outs-append m x y s) }

  ends-piece : {u : S} (x y : List A) → u ≡ ends m s x → ends m u y ≡ ends m s (x ++ y)
  ends-piece x y e = rw e (sym (ends-append m x y s))

  outs-one : (a : A) → outs m s (a ∷ []) ≡ m.emit s a
  outs-one a = append-nil (m.emit s a)

-- ---- the joiner takes a code

module _ (w : Writer) (c : ℕ) {s : Outcome} (step : Stepped w.joiner.state c s) where
  is-step : emitted s.out ≡ outs joiner w.joiner.state (c ∷ [])
  is-step = step.writes ∙ sym (outs-one joiner w.joiner.state c)

  pub room-code : {out : List ℕ} → Room out w.at (outs joiner w.joiner.state (c ∷ [])) → Room out w.at (emitted s.out)
  room-code h = rw is-step h

  pub joined-code : {out : List ℕ} {r : ℕ} {out' : List ℕ} → Wrote out w.at (emitted s.out) r out'
      → Joined w (c ∷ []) out (record { pending = w.pending; joiner = s.joiner; at = r }) out'
  joined-code h = record { pends = refl; opens = step.opens; writes = rw is-step at h }

-- ---- letters, taken by both machines

-- several: of `all` those in front of `left` are taken
pub record Going (w₀ : Writer) (all left out₀ : List ℕ) (w : Writer) (out : List ℕ) : Type 0 where
  pub done : List ℕ
  pub rest : done ++ left ≡ all
  pub turned : Turned w₀ done out₀ w out

pub going-begin : (w : Writer) (all out : List ℕ) → Going w all all out w out
going-begin w all out = record { done = []; rest = refl; turned = record { goes = refl; writes = wrote_none refl } }

module _ {w₀ w : Writer} {all left out₀ out : List ℕ} {a : ℕ} {left' : List ℕ} (g : Going w₀ all left out₀ w out) (next : left ≡ a ∷ left') where
  done-piece : Piece (outs gathering (state_of w₀) all) (outs gathering (state_of w₀) g.done) (outs gathering (state_of w) (a ∷ left'))
  done-piece = rw (g.rest, next) at (outs-piece gathering (state_of w₀) g.done left g.turned.goes)

  pub going-room : Room out₀ w₀.at (outs gathering (state_of w₀) all) → Room out w.at (outs gathering (state_of w) (a ∷ []))
  going-room h = room-first (room-second h done-piece g.turned.writes) (outs-piece gathering (state_of w) (a ∷ []) left' refl)

  pub going_more : {r : Writer} {out' : List ℕ} → Turned w (a ∷ []) out r out' → Going w₀ all left' out₀ r out'
  going_more t = record {
    done = g.done ++ (a ∷ []);
    rest = append_assoc g.done (a ∷ []) left' ∙ ap (λ (l : List ℕ). g.done ++ l) (sym next) ∙ g.rest;
    turned = record {
      goes = t.goes ∙ ends-piece gathering (state_of w₀) g.done (a ∷ []) g.turned.goes;
      writes = wrote-two (outs-piece gathering (state_of w₀) g.done (a ∷ []) g.turned.goes) g.turned.writes t.writes;
    };
  }

pub going_end : {w₀ w : Writer} {all left out₀ out : List ℕ} → Going w₀ all left out₀ w out → left ≡ [] → Turned w₀ all out₀ w out
going_end g e = rw (← g.rest, e, append-nil g.done) g.turned

-- the letters that were written to the front
module _ {l xs l' : List ℕ} {r : ℕ} (fits : length xs ≤ length l) (w : Wrote l 0 xs r l') where
  pub letters-taken : take r l' ≡ xs
  letters-taken =
      let f = filling-last fits (filling-none xs l) (record { eq = sym (append-nil xs) }) w in
      rw (f.size, f.holds) (take-append_seam xs (drop (length xs) l))

  pub letters-fit : r ≤ length l
  letters-fit = omega (arith, w.after, fits)

pub turned_taken : {w : Writer} {xs ys out : List ℕ} {r : Writer} {out' : List ℕ} → ys ≡ xs → Turned w ys out r out' → Turned w xs out r out'
turned_taken e t = rw e at t

pub room-taken : (w : Writer) {xs ys out : List ℕ} → ys ≡ xs → Room out w.at (outs gathering (state_of w) xs)
    → Room out w.at (outs gathering (state_of w) ys)
room-taken w e h = rw e h

-- ---- the end

module _ (w : Writer) {codes : List ℕ} (flushed : codes ≡ gather_flush w.pending) where
  rest-piece : Piece (gathering.flush (state_of w)) (outs joiner w.joiner.state codes) (held (ends joiner w.joiner.state codes))
  rest-piece = record { eq = rw (← flushed) (from-outs joiner codes w.joiner.state) }

  pub room-rest : {out : List ℕ} → Room out w.at (gathering.flush (state_of w)) → Room out w.at (outs joiner w.joiner.state codes)
  room-rest h = room-first h rest-piece

  module _ {v : Writer} {out out' : List ℕ} (j : Joined w codes out v out') {xs : List ℕ} (last : xs ≡ held v.joiner.state) where
    is_held : xs ≡ held (ends joiner w.joiner.state codes)
    is_held = last ∙ ap held j.opens

    pub room-last : Room out w.at (gathering.flush (state_of w)) → Room out' v.at xs
    room-last h = rw is_held (room-second h rest-piece j.writes)

    pub wrote-rest : {r : ℕ} {out'' : List ℕ} → Wrote out' v.at xs r out'' → Wrote out w.at (gathering.flush (state_of w)) r out''
    wrote-rest h = wrote-two rest-piece j.writes (rw is_held at h)
