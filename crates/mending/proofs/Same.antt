-- When two texts are mended to the same, in any encoding form: exactly when what they read as has
-- the same full parts. Over lists (`same-mended`), and over a call's contract (`same-call`).
use mathlib.Core.Path.{◌≡◌, ap}
use mathlib.Core.Logic.{◌↔◌}
use mathlib.Core.List.{List}
use Prim.Native.Nat.{ℕ}
use Rattle.std.specs.Prelude.{Ok}
use Rattle.letters.specs.Syllables.{full_parts}
use Rattle.joining.proofs.Joins.{same-join, same_parts}
use Rattle.encodings.specs.Forms.{Form, Encodes, read_in, write_in}
use Rattle.encodings.specs.Reading.{ReadsIn}
use Rattle.encodings.specs.declared.answer.Counted.{Counted}
use Rattle.encodings.proofs.Texts.{write-injective}
use Rattle.mending.specs.Mending.{mended_in, filled_front}
use Rattle.mending.proofs.Damage.{done-filled}
use Rattle.mending.proofs.Round.{mended-good}

module _ {f : Form} (enc : Encodes f) where
  -- THE SAME MENDED TEXT EXACTLY WHERE THE SAME FULL PARTS
  pub same-mended : (s t : List ℕ) → (mended_in f s ≡ mended_in f t) ↔ (full_parts (read_in f s) ≡ full_parts (read_in f t))
  unfolding mended_in
  same-mended s t = (
    (λ e. same-join (read_in f s) (read_in f t) (write-injective enc (mended-good enc s) (mended-good enc t) e)),
    (λ e. ap (write_in f) (same_parts (read_in f s) (read_in f t) e)),
  )

  -- over a call: two calls that are done fill the same exactly there, whatever their buffers
  pub same-call : (s t : List ℕ) {o p o' p' : List ℕ} {r r' : Counted} → ReadsIn f (mended_in f) s o (Ok r) o' → ReadsIn f (mended_in f) t p (Ok r') p'
      → (filled_front r o' ≡ filled_front r' p') ↔ (full_parts (read_in f s) ≡ full_parts (read_in f t))
  same-call s t h k = rw (done-filled h, done-filled k) (same-mended s t)
