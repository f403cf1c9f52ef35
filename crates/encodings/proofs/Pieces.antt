-- Laws of pieces: nothing is lost, lead units are fences, and what each kind of the next unit does
-- to the pieces.
--
-- In order: units of pieces put together (`units_of-append`); nothing is lost (`units_of-from`,
-- `units_of-pieces`); a unit that begins a piece is a fence (`starts-fence`); the next unit, with
-- nothing open (`open_full`, `open-part`, `open-bad`) and with something open (`goes-full`,
-- `goes-part`, `goes-bad`); ill-formed pieces counted (`ill_count-append`).
use mathlib.Core.Path.{◌≡◌, refl, sym, ◌∙◌}
use mathlib.Core.List.{List, [], ◌∷◌, ◌++◌, append_assoc, append-nil}
use Prim.Native.Nat.{◌+◌}
use native.Mathlib.Omega.{arith}
use Rattle.laws.specs.Machines.{from, Fence}
use Rattle.encodings.specs.Pieces.{Kind, full, part, bad, Piece, good, ill, units_of, made, left, made_at, left_at, cut_emit, cut_step, cut_flush, cutter, pieces, ill_count, Starts}

pub units_of-append : {A : Type 0} (P Q : List (Piece A)) → units_of (P ++ Q) ≡ units_of P ++ units_of Q
units_of-append [] Q = refl
units_of-append (w ∷ P) Q = rw (units_of-append P Q, append_assoc)

-- what a sequence makes and what it leaves open are its units
made-left : {A : Type 0} (k : Kind) (u : List A) → units_of (made k u) ++ left k u ≡ u
made-left full u = append-nil _ ∙ append-nil _
made-left part u = refl
made-left bad u = append-nil _ ∙ append-nil _

made_at-left_at : {A : Type 0} (k k₁ : Kind) (p : List A) (a : A) → units_of (made_at k k₁ p a) ++ left_at k k₁ p a ≡ p ++ (a ∷ [])
made_at-left_at full k₁ p a = append-nil _ ∙ append-nil _
made_at-left_at part k₁ p a = refl
made_at-left_at bad k₁ p a = rw (append_assoc, made-left k₁ (a ∷ []))

flush-units : {A : Type 0} (p : List A) → units_of (cut_flush p) ≡ p
flush-units [] = refl
flush-units (b ∷ p) = append-nil (b ∷ p)

module _ {A : Type 0} (kind : List A → Kind) where
  -- ---- nothing is lost: the units of a text's pieces are the text

  step-units : (p : List A) (a : A) → units_of (cut_emit kind p a) ++ cut_step kind p a ≡ p ++ (a ∷ [])
  step-units [] a = made-left (kind (a ∷ [])) (a ∷ [])
  step-units (b ∷ p) a = made_at-left_at (kind (b ∷ p ++ (a ∷ []))) (kind (a ∷ [])) (b ∷ p) a

  pub units_of-from : (t p : List A) → units_of (from (cutter kind) p t) ≡ p ++ t
  units_of-from [] p = flush-units p ∙ sym (append-nil p)
  units_of-from (a ∷ t) p =
      rw (units_of-append (cut_emit kind p a), units_of-from t (cut_step kind p a), ← append_assoc, step-units p a, append_assoc)

  pub units_of-pieces : (t : List A) → units_of (pieces kind t) ≡ t
  units_of-pieces t = units_of-from t []

  -- ---- a unit that begins a piece wherever it stands is a fence

  pub starts-fence : (a : A) → Starts kind a → Fence (cutter kind) a
  starts-fence a h = record { forgets = forgets; closes = closes }
    where
      forgets : (p : List A) → cut_step kind p a ≡ cut_step kind [] a
      forgets [] = refl
      forgets (b ∷ p) = rw (h b p)

      closes : (p : List A) → cut_emit kind p a ≡ cut_flush p ++ cut_emit kind [] a
      closes [] = refl
      closes (b ∷ p) = rw (h b p)

  -- ---- the next unit, with nothing open

  pub open_full : (a : A) (t : List A) → kind (a ∷ []) ≡ full → pieces kind (a ∷ t) ≡ good (a ∷ []) ∷ pieces kind t
  open_full a t q = rw q

  pub open-part : (a : A) (t : List A) → kind (a ∷ []) ≡ part → pieces kind (a ∷ t) ≡ from (cutter kind) (a ∷ []) t
  open-part a t q = rw q

  pub open-bad : (a : A) (t : List A) → kind (a ∷ []) ≡ bad → pieces kind (a ∷ t) ≡ ill (a ∷ []) ∷ pieces kind t
  open-bad a t q = rw q

  -- ---- the next unit a, with b ∷ p open

  pub goes-full : (b : A) (p : List A) (a : A) (t : List A) → kind (b ∷ p ++ (a ∷ [])) ≡ full
      → from (cutter kind) (b ∷ p) (a ∷ t) ≡ good (b ∷ p ++ (a ∷ [])) ∷ pieces kind t
  goes-full b p a t q = rw q

  pub goes-part : (b : A) (p : List A) (a : A) (t : List A) → kind (b ∷ p ++ (a ∷ [])) ≡ part
      → from (cutter kind) (b ∷ p) (a ∷ t) ≡ from (cutter kind) (b ∷ p ++ (a ∷ [])) t
  goes-part b p a t q = rw q

  pub goes-bad : (b : A) (p : List A) (a : A) (t : List A) → kind (b ∷ p ++ (a ∷ [])) ≡ bad
      → from (cutter kind) (b ∷ p) (a ∷ t) ≡ ill (b ∷ p) ∷ pieces kind (a ∷ t)
  goes-bad b p a t q = rw q

-- ---- ill-formed pieces counted

pub ill_count-append : {A : Type 0} (P Q : List (Piece A)) → ill_count (P ++ Q) ≡ ill_count P + ill_count Q
ill_count-append [] Q = omega arith
ill_count-append (good u ∷ P) Q = ill_count-append P Q
ill_count-append (ill u ∷ P) Q = omega (arith, ill_count-append P Q)
