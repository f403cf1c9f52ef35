-- What the ranker prints (document 01, 'Programs'): the record numbers, from 0, one a line, in
-- label order.
use Rattle.std.specs.Prelude.{◌≡◌, List, [], ◌∷◌, ◌++◌, ℕ, length, Result}
use Rattle.laws.specs.Lists.{each}
use Rattle.answers.specs.Verdicts.{Fills}
use Rattle.labels.specs.Images.{takes_image, bad_record, judged_as, named_by}
use Rattle.labels.specs.declared.image.ImageRefusal.{ImageRefusal}
use Rattle.sorting.specs.Sorting.{order_of}
use Rattle.sorting.specs.Decimals.{decimal_of}

unfoldable pub number_line : ℕ → List ℕ
number_line k = decimal_of k ++ (0x0A ∷ [])

-- THE LINES
unfoldable pub printed : List ℕ → List ℕ
printed image = each number_line (order_of image)

-- THE CONTRACT of printing: 1, 6, 7, then 3; the value is the length
pub record Prints (image out : List ℕ) (r : Result ℕ ImageRefusal) (out' : List ℕ) : Type 0 where
  pub fills : Fills (takes_image image) (printed image) (length (printed image)) out (judged_as r) out'
  pub names : named_by r ≡ bad_record image
