-- The order of an image's records (document 01, 'Programs', the ranker): in label order, records of
-- equal rank by berth number and then record number. `InOrder` says what has to be true of a list
-- of record numbers. `order_of` computes one, by putting each record in its place. It is proved to
-- be in order, and to be the only list that is (proofs/Sorted).
use Rattle.std.specs.Prelude.{◌≡◌, Bool, true, false, cond, List, [], ◌∷◌, ℕ, zero, suc, ◌<◌, Result}
use Rattle.laws.specs.Lists.{All}
use Rattle.answers.specs.Verdicts.{Fills}
use Rattle.ranking.specs.Ranking.{by_value, then_by, rank_bytes}
use Rattle.std.specs.declared.cmp.Ordering.{Ordering}
use Rattle.std.specs.declared.cmp.Ordering.TheVariants.{Less, Equal, Greater}
use Rattle.labels.specs.Images.{count_of, label_at, berth_at, takes_image, bad_record, judged_as, named_by}
use Rattle.labels.specs.declared.image.ImageRefusal.{ImageRefusal}

-- where one record stands to another: by label, then berth, then number
unfoldable pub standing : List ℕ → ℕ → ℕ → Ordering
standing image i j = then_by (rank_bytes (label_at image i) (label_at image j)) (then_by (by_value (berth_at image i) (berth_at image j)) (by_value i j))

abbrev pub is_before : Ordering → Bool
is_before Less = true
is_before Equal = false
is_before Greater = false

-- ---- what has to be true

-- each stands before all that follow it
pub data Sorted (stands : ℕ → ℕ → Ordering) : List ℕ → Type 0 where
  none : Sorted stands []
  also : {k : ℕ} {x : List ℕ} → All (λ j. stands k j ≡ Less) x → Sorted stands x → Sorted stands (k ∷ x)

pub data Member (k : ℕ) : List ℕ → Type 0 where
  here : {x : List ℕ} → Member k (k ∷ x)
  there : {j : ℕ} {x : List ℕ} → Member k x → Member k (j ∷ x)

-- the n numbers from 0 on, each once, since none stands before itself
pub record InOrder (stands : ℕ → ℕ → Ordering) (n : ℕ) (x : List ℕ) : Type 0 where
  pub sorted : Sorted stands x
  pub inside : All (λ k. k < n) x
  pub all : (k : ℕ) → k < n → Member k x

-- ---- THE ORDER

-- k put before the first that does not stand before it
unfoldable pub placed : (ℕ → ℕ → Ordering) → ℕ → List ℕ → List ℕ
placed stands k [] = k ∷ []
placed stands k (j ∷ x) = cond (is_before (stands j k)) (j ∷ placed stands k x) (k ∷ j ∷ x)

-- the numbers from 0 on, one after the other
unfoldable pub sorted_by : (ℕ → ℕ → Ordering) → ℕ → List ℕ
sorted_by stands zero = []
sorted_by stands (suc n) = placed stands n (sorted_by stands n)

abbrev pub order_of : List ℕ → List ℕ
order_of image = sorted_by (standing image) (count_of image)

-- THE CONTRACT of sorting: 1, 6, 7, then 3; of refusal 7 also which record is the lowest bad one
pub record Orders (image out : List ℕ) (r : Result ℕ ImageRefusal) (out' : List ℕ) : Type 0 where
  pub fills : Fills (takes_image image) (order_of image) (count_of image) out (judged_as r) out'
  pub names : named_by r ≡ bad_record image
