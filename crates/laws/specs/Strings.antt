-- Strings of bytes: the bytes of a text in quotes; whether two strings are the same, and whether
-- one begins with another; tables of strings of which one, another and a third are put together,
-- with what makes the three known again (`Separable`).
use Rattle.std.specs.Prelude.{◌≡◌, Bool, true, false, ◌&&◌, List, [], ◌∷◌, ◌++◌, ℕ, ◌<◌, eqb, length, get_or}
use Prim.Native.Char.{code}
use Prim.Native.String.{String, [] as finished, ◌∷◌ as ◌before◌}
use Rattle.laws.specs.Lists.{All}

-- the code of each character: of a text in ASCII its bytes
abbrev pub ascii : String → List ℕ
ascii finished = []
ascii (c before s) = code c ∷ ascii s

abbrev pub same : List ℕ → List ℕ → Bool
same [] [] = true
same [] (b ∷ y) = false
same (a ∷ x) [] = false
same (a ∷ x) (b ∷ y) = eqb a b && same x y

-- does y begin with x?
abbrev pub begins : List ℕ → List ℕ → Bool
begins [] y = true
begins (a ∷ x) [] = false
begins (a ∷ x) (b ∷ y) = eqb a b && begins x y

-- a string of each of three tables, one after the other
abbrev pub picked : List (List ℕ) → List (List ℕ) → List (List ℕ) → ℕ → ℕ → ℕ → List ℕ
picked A B C i p f = get_or A i [] ++ (get_or B p [] ++ get_or C f [])

-- no two entries of a table are equal
abbrev pub Distinct : List (List ℕ) → Type 0
Distinct A = (i j : ℕ) → i < length A → j < length A → get_or A i [] ≡ get_or A j [] → i ≡ j

-- three tables of distinct strings and a set of letters: the first and the third table's strings
-- hold none of these, the second's hold nothing else and are not empty
pub record Separable (in_set : ℕ → Bool) (A B C : List (List ℕ)) : Type 0 where
  pub first-free : All (λ x. All (λ c. in_set c ≡ false) x) A
  pub second-full : All (λ x. All (λ c. in_set c ≡ true) x) B
  pub second-some : All (λ x. x ≡ [] → ⊥) B
  pub third-free : All (λ x. All (λ c. in_set c ≡ false) x) C
  pub first-distinct : Distinct A
  pub second-distinct : Distinct B
  pub third-distinct : Distinct C
