-- WHAT IS PRINTED OF AN IMAGE IS AT MOST 2,618 BYTES, and a buffer of 2,618 bytes is never too
-- short.
--
-- In order: the bound (`image-most`), and that it is reached (`image-full`); such a buffer is
-- enough (`image-enough`).
use mathlib.Core.Path.{◌≡◌}
use mathlib.Core.List.{List}
use Prim.Native.Nat.{ℕ, ◌≤◌}
use native.Mathlib.Omega.{arith}
use lib.ListN.{length}
use Rattle.std.specs.Prelude.{Result, Ok}
use Rattle.laws.specs.Writing.{front}
use Rattle.answers.specs.Checks.{passes}
use Rattle.labels.specs.Images.{takes_image}
use Rattle.labels.specs.declared.image.ImageRefusal.{ImageRefusal}
use Rattle.sorting.specs.Printing.{printed, Prints}
use Rattle.sorting.proofs.Sorted.{order-right, order-length}
use Rattle.sorting.proofs.Printed.{printed-full, image-printed-most, prints-enough}

module _ (image : List ℕ) where
  pub image-most : length image ≤ 65472 → length (printed image) ≤ 2618
  image-most h = image-printed-most image h (order-right image) (order-length image)

  -- an image of 682 records is printed in just as many
  pub image-full : length image ≡ 65472 → length (printed image) ≡ 2618
  unfolding printed
  image-full e = printed-full (order-right image) (order-length image) (omega (arith, e))

  -- an image that is taken is printed if the buffer has 2,618 bytes
  pub image-enough : takes_image image ≡ passes → (out : List ℕ) → 2618 ≤ length out → {r : Result ℕ ImageRefusal} {out' : List ℕ} → Prints image out r out'
      → (r ≡ Ok (length (printed image))) × (out' ≡ front (printed image) out)
  image-enough taken out room p = prints-enough image out (order-right image) (order-length image) taken room p
