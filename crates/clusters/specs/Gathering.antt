-- Gathered form: document 01, 'Simple letters and clusters': the simple form; then, from the left
-- and going on after each cluster, the longest run of three, else two, letters that some row lists
-- becomes that cluster; then joining.
use Rattle.std.specs.Prelude.{cond, ◌&&◌, List, [], ◌∷◌, ℕ, eqb}
use Rattle.std.proofs.Math.Option.{Option, none, some}
use Rattle.joining.specs.Joining.{join}
use Rattle.clusters.specs.Table.{Cluster, two, three, clusters}
use Rattle.clusters.specs.Simple.{simple}

-- the cluster of two letters, if some row lists them
abbrev pub two_in : List Cluster → ℕ → ℕ → Option ℕ
two_in [] a b = none
two_in (two k x y ∷ ks) a b = cond (eqb x a && eqb y b) (some k) (two_in ks a b)
two_in (three k x y z ∷ ks) a b = two_in ks a b

unfoldable pub two_of : ℕ → ℕ → Option ℕ
two_of a b = two_in clusters a b

-- and of three
abbrev pub three_in : List Cluster → ℕ → ℕ → ℕ → Option ℕ
three_in [] a b c = none
three_in (two k x y ∷ ks) a b c = three_in ks a b c
three_in (three k x y z ∷ ks) a b c = cond (eqb x a && (eqb y b && eqb z c)) (some k) (three_in ks a b c)

unfoldable pub three_of : ℕ → ℕ → ℕ → Option ℕ
three_of a b c = three_in clusters a b c

-- three before two before the letter alone; what follows is what stands after three letters,
-- after two, after one
abbrev pub longest : Option ℕ → Option ℕ → ℕ → List ℕ → List ℕ → List ℕ → List ℕ
longest (some k) pair a after_three after_two after_one = k ∷ after_three
longest none (some k) a after_three after_two after_one = k ∷ after_two
longest none none a after_three after_two after_one = a ∷ after_one

-- THE LETTERS GATHERED INTO CLUSTERS, from the left
unfoldable pub clustered : List ℕ → List ℕ
clustered [] = []
clustered (a ∷ []) = a ∷ []
clustered (a ∷ b ∷ []) = longest none (two_of a b) a [] [] (b ∷ [])
clustered (a ∷ b ∷ c ∷ x) = longest (three_of a b c) (two_of a b) a (clustered x) (clustered (c ∷ x)) (clustered (b ∷ c ∷ x))

-- GATHERED FORM
unfoldable pub gathered : List ℕ → List ℕ
gathered text = join (clustered (simple text))
