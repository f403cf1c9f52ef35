-- What the places of specs/Damage are, in words that a reader can hold against the customer's:
-- `ending` and `beginning` are computed there; here stands what has to be true of them. Statements;
-- nothing is proved here (proofs/Places). No one encoding and no one transformation here.
--
-- In order: the kinds of pieces (`IsSoft`, `IsHard`, `Stops`); the ending's place (`Led`,
-- `AtPlace`, `EndingPlace`); the beginning's (`BeginningPlace`, `BeginningFound`).
use Rattle.std.specs.Prelude.{◌≡◌, Bool, true, false, List, [], ◌∷◌, ◌++◌}
use Rattle.laws.specs.Lists.{All}
use Rattle.encodings.specs.Pieces.{Piece, good, ill, units_of, pieces}
use Rattle.encodings.specs.Damage.{Encoding, Transformation, seek, soft_units, ending, beginning}

-- ---- kinds of pieces

module _ {A B : Type 0} (e : Encoding A) (m : Transformation B) where
  -- a well-formed character that is soft, and one that is not
  abbrev pub IsSoft : Piece A → Type 0
  IsSoft (good u) = soft_units e m u ≡ true
  IsSoft (ill u) = ⊥

  abbrev pub IsHard : Piece A → Type 0
  IsHard (good u) = soft_units e m u ≡ false
  IsHard (ill u) = ⊥

  -- an ill-formed part, or a well-formed character that is not soft
  abbrev pub Stops : Piece A → Type 0
  Stops (good u) = soft_units e m u ≡ false
  Stops (ill u) = Unit {0}

-- ---- the ending's place

-- a text begins with a unit that begins a sequence, if it has any unit
abbrev pub Led : {A : Type 0} → (A → Bool) → List A → Type 0
Led lead [] = Unit {0}
Led lead (a ∷ x) = lead a ≡ true

module _ {A B : Type 0} (e : Encoding A) (m : Transformation B) where
  -- pieces begin with one that stops, if there is any
  abbrev pub AtPlace : List (Piece A) → Type 0
  AtPlace [] = Unit {0}
  AtPlace (w ∷ P) = Stops e m w

  -- z is units that begin no sequence, then soft characters, then the ending, which begins with a
  -- piece that stops: z is read from the first unit that begins a sequence, and the place is the
  -- first piece there that is not soft
  pub record EndingPlace (z : List A) : Type 0 where
    pub loose : List A
    pub softs : List (Piece A)
    pub text : z ≡ loose ++ seek e.lead z
    pub unled : All (λ a. e.lead a ≡ false) loose
    pub led : Led e.lead (seek e.lead z)
    pub sought : seek e.lead z ≡ units_of softs ++ ending e m z
    pub read : pieces e.kind (seek e.lead z) ≡ softs ++ pieces e.kind (ending e m z)
    pub all-soft : All (IsSoft e m) softs
    pub at : AtPlace (pieces e.kind (ending e m z))

  -- ---- the beginning's place

  -- b is the beginning, then a well-formed character that is not soft, then pieces of which none is
  -- one
  pub record BeginningPlace (b : List A) : Type 0 where
    pub last : List A
    pub after : List (Piece A)
    pub text : b ≡ beginning e m b ++ (last ++ units_of after)
    pub read : pieces e.kind b ≡ pieces e.kind (beginning e m b) ++ good last ∷ after
    pub hard : soft_units e m last ≡ false
    pub none_after : All (λ w. IsHard e m w → ⊥) after

  -- there is such a place, or b has no such character at all
  pub data BeginningFound (b : List A) : Type 0 where
    found : BeginningPlace b → BeginningFound b
    none : All (λ w. IsHard e m w → ⊥) (pieces e.kind b) → beginning e m b ≡ [] → BeginningFound b
