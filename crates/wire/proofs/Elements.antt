-- Elements of one size on the wire. In order: many elements read; one written, and nothing; as many
-- bytes as the elements are; the next of many written, and the last.
use mathlib.Core.Path.{◌≡◌, refl, sym, ap, ◌∙◌}
use mathlib.Core.List.{List, [], ◌∷◌}
use Prim.Native.Nat.{ℕ, zero, suc, ◌+◌, ◌-◌, ◌*◌, ◌/◌, ◌≤◌, ◌<◌}
use native.Mathlib.Nat.{zero-add, add_comm, mul_comm, mul-zero, mul-suc, le-div_iff_mul-le, div-lt_iff_lt-mul}
use native.Mathlib.Numerals.{add-one}
use native.Mathlib.Omega.{arith}
use borrow.Rule.Slice.PartMut.{put_mid, Post-is}
use lib.ListN.{length, get_or, drop, length-append}
use lib.Seq.{sets, sets-eq, drop-drop}
use Rattle.std.proofs.Common.{append_assoc}
use Rattle.laws.specs.Lists.{each}
use Rattle.laws.specs.Writing.{front, fitted}
use Rattle.laws.proofs.Lists.{each_nil, each-cons}
use Rattle.laws.proofs.Filling.{Piece, Filling, filling-room, filling-more, filling-all, fitted-all, wrote-all, wrote-fitted, wrote-unfitted}
use Rattle.wire.specs.Numbers.{element_at, elements_of}

-- ---- reading

module _ {A : Type 0} (size : ℕ) (first : List ℕ → A) where
  pub length-elements : (n : ℕ) (bytes : List ℕ) → length (elements_of size first n bytes) ≡ n
  unfolding elements_of
  length-elements zero bytes = refl
  length-elements (suc n) bytes = ap suc (length-elements n (drop size bytes))

  pub elements-at : (n : ℕ) (bytes : List ℕ) (i : ℕ) (d : A) → i < n → get_or (elements_of size first n bytes) i d ≡ element_at size first bytes i
  unfolding elements_of element_at
  elements-at zero bytes i d h = absurd (omega arith)
  elements-at (suc n) bytes zero d h = ap (λ (k : ℕ). first (drop k bytes)) (sym (mul-zero size))
  elements-at (suc n) bytes (suc i) d h =
      let next : size + size * i ≡ size * suc i = add_comm size (size * i) ∙ sym (mul-suc size i) in
      elements-at n (drop size bytes) i d (omega arith) ∙ ap first (drop-drop (size * i) size bytes ∙ ap (λ (k : ℕ). drop k bytes) next)

-- ---- writing

-- the bytes of an element, copied over as many
pub put-copied : {whole new : List ℕ} (out : List ℕ) (at size : ℕ) → length whole ≡ size → at + size ≤ length out → new ≡ whole
    → put_mid at (at + size - at) out new ≡ sets out at (fitted whole out at)
put-copied {whole} out at size l h e =
    let fits : at + length whole ≤ length out = omega (arith, l) in
    rw (e, fitted-all whole out at fits, sets-eq whole out at fits, Post-is at (at + size) out (omega arith), l) (simp append_assoc refl)

-- `bytes_of` gives the bytes of an element, which are `size` many
pub length-each : {A : Type 0} (size : ℕ) (bytes_of : A → List ℕ) → ((v : A) → length (bytes_of v) ≡ size) → (values : List A)
    → length (each bytes_of values) ≡ size * length values
length-each size bytes_of h [] = ap length (each_nil bytes_of) ∙ sym (mul-zero size)
length-each size bytes_of h (v ∷ values) =
    omega (arith, simp length-append at (ap length (each-cons bytes_of v values)), h v, length-each size bytes_of h values, mul-suc size (length values))

-- in so many bytes there is room for so many elements
room-for : (size room count : ℕ) → 0 < size → count ≤ room / size → size * count ≤ room
room-for size room count some h = rw (mul_comm size count) ((le-div_iff_mul-le some).0 h)

no_room-for : (size room count : ℕ) → 0 < size → room / size < count → room < size * count
no_room-for size room count some h = rw (mul_comm size count) ((div-lt_iff_lt-mul some).0 h)

pub put-nothing : (whole bytes : List ℕ) → length bytes < length whole → bytes ≡ sets bytes 0 (fitted whole bytes 0)
put-nothing whole bytes h = (wrote-unfitted {all = whole} {out = bytes} {at = 0} refl (omega arith)).holds

module _ {A : Type 0} {size : ℕ} (bytes_of : A → List ℕ) (some : 0 < size) (sized : (v : A) → length (bytes_of v) ≡ size) (values : List A) (bytes : List ℕ) where
  pub elements_fit : length values ≤ length bytes / size → length (each bytes_of values) ≤ length bytes
  elements_fit h = omega (arith, length-each size bytes_of sized values, room-for size (length bytes) (length values) some h)

  pub elements-none : length bytes / size < length values → bytes ≡ sets bytes 0 (fitted (each bytes_of values) bytes 0)
  elements-none h =
      put-nothing (each bytes_of values) bytes (omega (arith, length-each size bytes_of sized values, no_room-for size (length bytes) (length values) some h))

-- where the next element begins
pub next-begins : (size i : ℕ) → size * (i + 1) ≡ size * i + size
next-begins size i = rw add-one (mul-suc size i)

-- of a `whole` that fits the next piece is written; then nothing is left
module _ {whole out₀ : List ℕ} (h : length whole ≤ length out₀) where
  pub put-piece : {xs left rest out out' : List ℕ} {k k' size : ℕ} → length xs ≡ size → Filling whole left out₀ out k → Piece left xs rest
      → out' ≡ sets out k (fitted xs out k) → k' ≡ k + size → Filling whole rest out₀ out' k'
  put-piece s f p e n = filling-more h f p (record {
    after = omega (arith, s);
    holds = (wrote-all (filling-room h f p) (record { after = refl; holds = e })).holds;
  })

  pub put-end : {rest out : List ℕ} {k : ℕ} → Filling whole rest out₀ out k → rest ≡ [] → out ≡ sets out₀ 0 (fitted whole out₀ 0)
  put-end f e =
      let front-sets : sets out₀ 0 whole ≡ front whole out₀ = simp zero-add at (sets-eq whole out₀ 0 (omega arith)) in
      (wrote-fitted {all = whole} {out = out₀} {at = 0} refl (omega arith) (record { after = refl; holds = (filling-all f e).holds ∙ sym front-sets })).holds
