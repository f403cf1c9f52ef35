-- The first ill-formed subpart, in any encoding form. In order: it is before the end if and only if
-- there is one (`first-ill-none`, `first-ill-some`, `first-ill-end`); and what a loop that looks
-- for it keeps at its index: what is taken there is well-formed (`ill-next`), or it is the subpart
-- (`ill-here`), or the text has ended (`ill-end`).
use mathlib.Core.Path.{◌≡◌, refl}
use mathlib.Core.List.{List, [], ◌∷◌}
use Prim.Native.Nat.{ℕ, ◌+◌, ◌≤◌, ◌<◌}
use native.Mathlib.Omega.{arith}
use lib.Dec.{eqb}
use lib.ListN.{length, drop, length-append, drop_of_length-le}
use borrow.Author.Tests.{eqb-true, eqb-false}
use Rattle.laws.proofs.Bools.{test}
use Rattle.encodings.specs.Pieces.{Piece, good, ill, ill_count}
use Rattle.encodings.specs.Readings.{Reading, nothing, formed, broken}
use Rattle.encodings.specs.Forms.{Form, Encodes, pieces_in, ill_in, before_ill, first_ill_in}
use Rattle.encodings.specs.Reading.{taken_in}
use Rattle.encodings.specs.declared.answer.Taken.{Taken}
use Rattle.encodings.proofs.Taking.{pieces-after, pieces-some}
use Rattle.encodings.proofs.Texts.{reading-in}

-- ---- before the end if and only if there is one

module _ {f : Form} (enc : Encodes f) where
  reading-none : {t : List ℕ} {P : List (Piece ℕ)} → Reading f.encoding.kind t P → ill_count P ≡ 0 → before_ill P ≡ length t
  reading-none nothing e = refl
  reading-none (formed u k r) e = simp length-append (omega (arith, reading-none r e))
  reading-none (broken u m r) e = absurd (omega arith)

  reading-some : {t : List ℕ} {P : List (Piece ℕ)} → Reading f.encoding.kind t P → (ill_count P ≡ 0 → ⊥) → before_ill P < length t
  reading-some nothing e = absurd (e refl)
  reading-some (formed u k r) e = simp length-append (omega (arith, reading-some r e))
  reading-some (broken u m r) e = simp length-append (omega (arith, m.some))

  module _ (text : List ℕ) where
    -- nothing is ill-formed: it is the length
    pub first-ill-none : ill_in f text ≡ 0 → first_ill_in f text ≡ length text
    unfolding first_ill_in
    first-ill-none e = reading-none (reading-in enc text) e

    -- something is: it is before the end
    pub first-ill-some : (ill_in f text ≡ 0 → ⊥) → first_ill_in f text < length text
    unfolding first_ill_in
    first-ill-some e = reading-some (reading-in enc text) e

    -- and back
    pub first-ill-end : length text ≤ first_ill_in f text → ill_in f text ≡ 0
    first-ill-end h =
        test (eqb (ill_in f text) 0) (λ e. eqb-true (ill_in f text) 0 e)
        (λ e. absurd (omega (arith, first-ill-some (eqb-false (ill_in f text) 0 e))))

-- ---- at a loop's index: n is the index wanted, and r was taken at the loop's

module _ (f : Form) (text : List ℕ) (at n : ℕ) where
  taken-formed : (P : List (Piece ℕ)) → pieces_in f (drop at text) ≡ P → at < length text → (taken_in f P).ill ≡ 0
      → before_ill P ≡ (taken_in f P).size + before_ill (pieces_in f (drop (at + (taken_in f P).size) text))
  taken-formed [] e h q = absurd (pieces-some f text at h e)
  taken-formed (good u ∷ P) e h q = rw (pieces-after f text at (good u) P e)
  taken-formed (ill u ∷ P) e h q = absurd (omega arith)

  taken-ill : (P : List (Piece ℕ)) → ((taken_in f P).ill ≡ 0 → ⊥) → before_ill P ≡ 0
  taken-ill [] q = refl
  taken-ill (good u ∷ P) q = absurd (q refl)
  taken-ill (ill u ∷ P) q = refl

  module _ {r : Taken} (taken : r ≡ taken_in f (pieces_in f (drop at text))) where
    pub ill-next : at < length text → r.ill ≡ 0 → at + first_ill_in f (drop at text) ≡ n → at + r.size + first_ill_in f (drop (at + r.size) text) ≡ n
    unfolding first_ill_in
    ill-next h q e = rw taken (omega (arith, taken-formed (pieces_in f (drop at text)) refl h (rw taken at q), e))

    pub ill-here : (r.ill ≡ 0 → ⊥) → at + first_ill_in f (drop at text) ≡ n → at ≡ n
    unfolding first_ill_in
    ill-here q e = omega (arith, taken-ill (pieces_in f (drop at text)) (rw taken at q), e)

  pub ill-end : length text ≤ at → at + first_ill_in f (drop at text) ≡ n → at ≡ n
  unfolding first_ill_in
  ill-end h e = omega (arith, rw (drop_of_length-le text h) at e)
