-- Between two encoding forms: a text mended in one and then written in the other is what it gives
-- if it is written first and then mended (`across`); a text with nothing ill-formed comes back
-- through the other (`through`); and two texts, each mended in its own form, read as the same
-- exactly when what they read as has the same full parts (`same-across`).
use mathlib.Core.Path.{◌≡◌, sym, ◌∙◌, ap}
use mathlib.Core.Logic.{◌↔◌}
use mathlib.Core.List.{List}
use Prim.Native.Nat.{ℕ}
use Rattle.letters.specs.Syllables.{full_parts}
use Rattle.joining.specs.Joining.{join}
use Rattle.joining.proofs.Joins.{same-join, same_parts}
use Rattle.encodings.specs.Forms.{Form, Encodes, read_in, ill_in, write_in}
use Rattle.encodings.proofs.Texts.{read-good, read-write, write_read}
use Rattle.mending.specs.Mending.{mended_in}
use Rattle.mending.proofs.Round.{mended-read}

module _ {f g : Form} (one : Encodes f) (other : Encodes g) where
  pub across : (t : List ℕ) → write_in g (read_in f (mended_in f t)) ≡ mended_in g (write_in g (read_in f t))
  unfolding mended_in
  across t = ap (write_in g) (mended-read one t) ∙ sym (ap (λ (x : List ℕ). write_in g (join x)) (read-write other (read-good one t)))

  pub through : (t : List ℕ) → ill_in f t ≡ 0 → write_in f (read_in g (write_in g (read_in f t))) ≡ t
  through t e = ap (write_in f) (read-write other (read-good one t)) ∙ write_read one t e

  pub same-across : (s t : List ℕ) → (read_in f (mended_in f s) ≡ read_in g (mended_in g t)) ↔ (full_parts (read_in f s) ≡ full_parts (read_in g t))
  same-across s t =
      rw (mended-read one s, mended-read other t) ((λ e. same-join (read_in f s) (read_in g t) e), (λ e. same_parts (read_in f s) (read_in g t) e))
