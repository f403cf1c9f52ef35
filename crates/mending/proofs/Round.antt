-- The round trips of mending, in any encoding form: a text with nothing to mend comes back as it
-- is, and a mended text is mended already; with what a mended text reads as. Over lists, and over a
-- call's contract: its answer and its buffer, where the units are taken and there is room.
--
-- In order: what a mended text reads as (`mended-good`, `mended-read`, `mended-joined`) and that
-- nothing of it is ill-formed (`mended-ills`); the round trips (`joined_back`, `mended-again`);
-- over a call (`call-done`, `call_back`, `call-again`).
use mathlib.Core.Path.{◌≡◌, refl, ◌∙◌, ap}
use mathlib.Core.Bool.{false}
use mathlib.Core.List.{List}
use Prim.Native.Nat.{ℕ, ◌≤◌}
use lib.ListN.{length}
use Rattle.std.specs.Prelude.{Result, Ok}
use Rattle.laws.specs.Lists.{All}
use Rattle.laws.specs.Writing.{front}
use Rattle.answers.specs.Checks.{bad, passes, takes_units}
use Rattle.answers.specs.declared.refusal.Refusal.{Refusal}
use Rattle.answers.proofs.Verdicts.{filled-whole}
use Rattle.joining.specs.Joining.{join}
use Rattle.joining.proofs.Joins.{join-join, join-good}
use Rattle.encodings.specs.Forms.{Form, Encodes, read_in, ill_in, write_in}
use Rattle.encodings.specs.Reading.{counted_in, ReadsIn}
use Rattle.encodings.proofs.Texts.{read-good, read-write, ill-write, write_read}
use Rattle.encodings.proofs.Reading.{reads-unique}
use Rattle.mending.specs.Mending.{mended_in}
use Rattle.encodings.specs.declared.answer.Counted.{Counted}

module _ {f : Form} (enc : Encodes f) where
  -- ---- a mended text read

  -- its code points are scalar values
  pub mended-good : (t : List ℕ) → All (λ c. bad c ≡ false) (join (read_in f t))
  mended-good t = join-good (read_in f t) (read-good enc t)

  -- WHAT A MENDED TEXT READS AS is what the text's code points join to, which is joined already;
  -- and nothing of it is ill-formed
  pub mended-read : (t : List ℕ) → read_in f (mended_in f t) ≡ join (read_in f t)
  unfolding mended_in
  mended-read t = read-write enc (mended-good t)

  pub mended-joined : (t : List ℕ) → join (read_in f (mended_in f t)) ≡ read_in f (mended_in f t)
  mended-joined t = rw (mended-read t) (join-join (read_in f t))

  pub mended-ills : (t : List ℕ) → ill_in f (mended_in f t) ≡ 0
  unfolding mended_in
  mended-ills t = ill-write enc (mended-good t)

  -- ---- THE ROUND TRIPS

  -- a text with nothing to mend comes back
  pub joined_back : (t : List ℕ) → ill_in f t ≡ 0 → join (read_in f t) ≡ read_in f t → mended_in f t ≡ t
  unfolding mended_in
  joined_back t e j = ap (write_in f) j ∙ write_read enc t e

  -- a mended text is such a one
  pub mended-again : (t : List ℕ) → mended_in f (mended_in f t) ≡ mended_in f t
  mended-again t = joined_back (mended_in f t) (mended-ills t) (mended-joined t)

-- ---- THE ROUND TRIPS OVER A CALL

-- the units are taken and there is room: the call is done, and the mended text fills the front of
-- the buffer
pub call-done : (f : Form) (t out : List ℕ) → takes_units t ≡ passes → length (mended_in f t) ≤ length out → {r : Result Counted Refusal} {out' : List ℕ}
    → ReadsIn f (mended_in f) t out r out' → (r ≡ Ok (counted_in f (mended_in f) t)) × (out' ≡ front (mended_in f t) out)
call-done f t out taken room h = reads-unique (mended_in f) t out h (record { fills = filled-whole taken room refl })

module _ {f : Form} (enc : Encodes f) where
  -- a text with nothing to mend is left as it is, with nothing counted
  pub call_back : (t out : List ℕ) → takes_units t ≡ passes → ill_in f t ≡ 0 → join (read_in f t) ≡ read_in f t → length t ≤ length out → {r : Result Counted Refusal}
      {out' : List ℕ} → ReadsIn f (mended_in f) t out r out' → (r ≡ Ok (record { length = length t; ills = 0 })) × (out' ≡ front t out)
  call_back t out taken e j room h =
      let back = joined_back enc t e j in
      let k = call-done f t out taken (rw back room) h in
      (k.0 ∙ rw (back, e), k.1 ∙ rw back)

  pub call-again : (t out : List ℕ) → takes_units (mended_in f t) ≡ passes → length (mended_in f t) ≤ length out → {r : Result Counted Refusal} {out' : List ℕ}
      → ReadsIn f (mended_in f) (mended_in f t) out r out'
      → (r ≡ Ok (record { length = length (mended_in f t); ills = 0 })) × (out' ≡ front (mended_in f t) out)
  call-again t out taken room h = call_back (mended_in f t) out taken (mended-ills enc t) (mended-joined enc t) room h
