-- What the places of demand 3 are (specs/Places), proved of `ending` and `beginning` for every
-- encoding and every transformation, whatever laws these have.
--
-- In order: the first lead unit (`Sought`, `sought`); soft pieces skipped (`Skipped`, `skipped`,
-- `all-skipped`); the ending's place (`ending-place`) and when there is none (`ending-found`); the
-- last hard piece (`Last`, `last-stands`, `none-stands`, `none-hard`); the beginning's place
-- (`beginning-place`).
use mathlib.Core.Path.{◌≡◌, refl, sym, ◌∙◌, ap}
use mathlib.Core.Bool.{Bool, true, false, not, false≢true}
use mathlib.Core.Logic.{◌↔◌}
use mathlib.Core.List.{List, [], ◌∷◌, ◌++◌, append-nil}
use borrow.Author.Tests.{not-true}
use Rattle.laws.specs.Lists.{All, none as nobody, also}
use Rattle.laws.proofs.Bools.{test, or_left, or_right, or-only}
use Rattle.encodings.specs.Pieces.{Piece, good, ill, units_of, pieces}
use Rattle.encodings.specs.Damage.{Encoding, Transformation, seek, skip, stands, upto, soft_units, ending}
use Rattle.encodings.specs.Places.{IsSoft, IsHard, Led, AtPlace, EndingPlace, BeginningPlace, BeginningFound, found, none}
use Rattle.encodings.proofs.Seams.{seam}

-- ---- the first lead unit

-- a text is units that begin no sequence, and then what is found from its first lead unit on
record Sought {A : Type 0} (lead : A → Bool) (z : List A) : Type 0 where
  loose : List A
  text : z ≡ loose ++ seek lead z
  unled : All (λ a. lead a ≡ false) loose
  led : Led lead (seek lead z)

module _ {A : Type 0} (lead : A → Bool) where
  seek-further : (a : A) (z : List A) → lead a ≡ false → Sought lead z → Sought lead (a ∷ z)
  seek-further a z q s =
      record { loose = a ∷ s.loose; text = rw q (ap (λ (x : List A). a ∷ x) s.text); unled = also q s.unled; led = rw q s.led }

  sought : (z : List A) → Sought lead z
  sought [] = record { loose = []; text = refl; unled = nobody; led = tt }
  sought (a ∷ z) = test (lead a) (λ q. record { loose = []; text = rw q; unled = nobody; led = rw q q }) (λ q. seek-further a z q (sought z))

module _ {A B : Type 0} (e : Encoding A) (m : Transformation B) where
  -- ---- soft pieces skipped

  -- pieces are soft ones, and then what is left from the first that stops
  record Skipped (P : List (Piece A)) : Type 0 where
    softs : List (Piece A)
    split : P ≡ softs ++ skip (soft_units e m) P
    all-soft : All (IsSoft e m) softs
    at : AtPlace e m (skip (soft_units e m) P)

  skip-further : (u : List A) (P : List (Piece A)) → soft_units e m u ≡ true → Skipped P → Skipped (good u ∷ P)
  skip-further u P q s = record {
    softs = good u ∷ s.softs;
    split = rw q (ap (λ (x : List (Piece A)). good u ∷ x) s.split);
    all-soft = also q s.all-soft;
    at = rw q s.at;
  }

  skipped : (P : List (Piece A)) → Skipped P
  skipped [] = record { softs = []; split = refl; all-soft = nobody; at = tt }
  skipped (ill u ∷ P) = record { softs = []; split = refl; all-soft = nobody; at = tt }
  skipped (good u ∷ P) =
      test (soft_units e m u) (λ q. skip-further u P q (skipped P)) (λ q. record { softs = []; split = rw q; all-soft = nobody; at = rw q q })

  all-skipped : {P : List (Piece A)} → All (IsSoft e m) P → skip (soft_units e m) P ≡ []
  all-skipped nobody = refl
  all-skipped (also {a = good u} q p) = rw q (all-skipped p)
  all-skipped (also {a = ill u} q p) = absurd q

  -- ---- THE ENDING'S PLACE

  pub ending-place : (z : List A) → EndingPlace e m z
  ending-place z =
      let S = seek e.lead z in
      let s = sought e.lead z in
      let k = skipped (pieces e.kind S) in
      let h = seam e.kind S k.softs (skip (soft_units e m) (pieces e.kind S)) k.split in
      record {
        loose = s.loose;
        softs = k.softs;
        text = s.text;
        unled = s.unled;
        led = s.led;
        sought = h.text;
        read = rw h.after k.split;
        all-soft = k.all-soft;
        at = rw h.after k.at;
      }

  -- there is nothing after it exactly when all that is read is soft
  pub ending-found : (z : List A) → (ending e m z ≡ []) ↔ All (IsSoft e m) (pieces e.kind (seek e.lead z))
  ending-found z = (nothing, (λ p. ap units_of (all-skipped p)))
    where
      place : EndingPlace e m z
      place = ending-place z

      nothing : ending e m z ≡ [] → All (IsSoft e m) (pieces e.kind (seek e.lead z))
      nothing q = rw (place.read, q, append-nil) place.all-soft

-- ---- the last hard piece: what `upto` stops at

record Last {A : Type 0} (soft : List A → Bool) (P : List (Piece A)) : Type 0 where
  last : List A
  rest : List (Piece A)
  split : P ≡ upto soft P ++ good last ∷ rest
  hard : soft last ≡ false
  none_after : stands soft rest ≡ false

module _ {A : Type 0} (soft : List A → Bool) where
  later : (w : Piece A) (P : List (Piece A)) → stands soft P ≡ true → Last soft P → Last soft (w ∷ P)
  later w P q l = record {
    last = l.last;
    rest = l.rest;
    split = rw q (ap (λ (x : List (Piece A)). w ∷ x) l.split);
    hard = l.hard;
    none_after = l.none_after;
  }

  here : (w : Piece A) (P : List (Piece A)) → stands soft P ≡ false → stands soft (w ∷ P) ≡ true → Last soft (w ∷ P)
  here (ill u) P q h = absurd (false≢true (sym q ∙ h))
  here (good u) P q h =
      record { last = u; rest = P; split = rw q; hard = not-true (soft u) (or-only (not (soft u)) (stands soft P) h q); none_after = q }

  last-stands : (P : List (Piece A)) → stands soft P ≡ true → Last soft P
  last-stands [] h = absurd (false≢true h)
  last-stands (w ∷ P) h = test (stands soft P) (λ q. later w P q (last-stands P q)) (λ q. here w P q h)

  none-stands : (P : List (Piece A)) → stands soft P ≡ false → upto soft P ≡ []
  none-stands [] h = refl
  none-stands (ill u ∷ P) h = rw h
  none-stands (good u ∷ P) h = rw (or_right (not (soft u)) (stands soft P) h)

module _ {A B : Type 0} (e : Encoding A) (m : Transformation B) where
  none-hard : (P : List (Piece A)) → stands (soft_units e m) P ≡ false → All (λ w. IsHard e m w → ⊥) P
  none-hard [] h = nobody
  none-hard (ill u ∷ P) h = also (λ x. x) (none-hard P h)
  none-hard (good u ∷ P) h =
      let s = stands (soft_units e m) P in
      also (λ q. false≢true (sym (or_left (not (soft_units e m u)) s h) ∙ ap not q)) (none-hard P (or_right (not (soft_units e m u)) s h))

  -- ---- THE BEGINNING'S PLACE

  pub beginning-place : (b : List A) → BeginningFound e m b
  beginning-place b =
      test (stands (soft_units e m) P) (λ h. found (place (last-stands (soft_units e m) P h)))
      (λ h. none (none-hard P h) (ap units_of (none-stands (soft_units e m) P h)))
    where
      P : List (Piece A)
      P = pieces e.kind b

      place : Last (soft_units e m) P → BeginningPlace e m b
      place l =
          let h = seam e.kind b (upto (soft_units e m) P) (good l.last ∷ l.rest) l.split in
          record {
            last = l.last;
            after = l.rest;
            text = h.text;
            read = rw h.before l.split;
            hard = l.hard;
            none_after = none-hard l.rest l.none_after;
          }
