-- Judging a whole image, record by record.
--
-- In order: a byte that breaks a layout, as a check (`faulty-none`, `faulty-some`); the checks 1
-- and 6 of an image (`whole-over`, `whole-uneven`, `whole-passed`); the loop's invariant
-- (`Judging`: the records from an index on are judged as all are), from its beginning
-- (`judging-none`) over a good record (`judging-more`) to the first bad one (`judging-bad`) or the
-- end (`judging-all`); and the call if 1 or 6 is given (`judges-refused`).
use mathlib.Core.Path.{◌≡◌, refl, sym, ◌∙◌, ap}
use mathlib.Core.Option.{some}
use mathlib.Core.List.{List, [], ◌∷◌}
use Prim.Native.Nat.{ℕ, zero, suc, ◌+◌, ◌%◌, ◌≤◌, ◌<◌}
use native.Mathlib.Numerals.{add-one}
use native.Mathlib.Omega.{arith}
use lib.ListN.{length}
use Rattle.std.specs.Prelude.{Option, Some, None, Result, Err, Ok}
use Rattle.answers.specs.Checks.{Check, passes, refuses, in_order}
use Rattle.answers.specs.Answers.{checked}
use Rattle.answers.specs.declared.refusal.Refusal.{Refusal}
use Rattle.labels.specs.Records.{layout}
use Rattle.labels.specs.Images.{record_at, count_of, over_image, no_image, layouts_from, bad_from, takes_image, bad_record, Judges}
use Rattle.labels.specs.Inner.{faulty}
use Rattle.labels.specs.declared.image.ImageRefusal.TheVariants.{Refused, BadRecord}
use Rattle.answers.proofs.Orders.{order-refused, order-passed, order-one}
use Rattle.labels.proofs.Images.{image-over, image-within, image-uneven, image-even}

-- ---- a byte as a check

module _ {check : Check} {found : Option ℕ} (e : check ≡ faulty found) where
  pub faulty-none : found ≡ None → check ≡ passes
  faulty-none q = e ∙ ap faulty q

  pub faulty-some : {byte : ℕ} → found ≡ Some byte → check ≡ refuses 7 byte
  faulty-some q = e ∙ ap faulty q

-- ---- 1 and 6

abbrev sized : List ℕ → Check
sized image = in_order (over_image image ∷ no_image image ∷ [])

module _ (image : List ℕ) where
  pub whole-over : 65472 < length image → refuses 1 65472 ≡ sized image
  whole-over h = simp (image-over image h)

  pub whole-uneven : length image ≤ 65472 → (length image % 96 ≡ 0 → ⊥) → refuses 6 (length image) ≡ sized image
  whole-uneven h e = simp (image-within image h, image-uneven image e)

  pub whole-passed : length image ≤ 65472 → length image % 96 ≡ 0 → passes ≡ sized image
  whole-passed h e = simp (image-within image h, image-even image e)

-- ---- the loop

pub record Judging (image : List ℕ) (number : ℕ) : Type 0 where
  pub left : ℕ
  pub sum : number + left ≡ count_of image
  pub checks : layouts_from image number left ≡ layouts_from image 0 (count_of image)
  pub names : bad_from image number left ≡ bad_from image 0 (count_of image)

pub judging-none : (image : List ℕ) → Judging image 0
judging-none image = record { left = count_of image; sum = omega arith; checks = refl; names = refl }

-- a record that is good is passed over
layouts-pass : (image : List ℕ) (k n : ℕ) → layout (record_at image k) ≡ passes → layouts_from image k (suc n) ≡ layouts_from image (suc k) n
unfolding layouts_from
layouts-pass image k n e = rw e (order-one (layouts_from image (suc k) n))

bad-pass : (image : List ℕ) (k n : ℕ) → layout (record_at image k) ≡ passes → bad_from image k (suc n) ≡ bad_from image (suc k) n
unfolding bad_from
bad-pass image k n e = rw e

-- and one that is not is the one that counts
layouts-stop : (image : List ℕ) (k n : ℕ) {byte : ℕ} → layout (record_at image k) ≡ refuses 7 byte → layouts_from image k (suc n) ≡ refuses 7 byte
unfolding layouts_from
layouts-stop image k n e = rw e

bad-stop : (image : List ℕ) (k n : ℕ) {byte : ℕ} → layout (record_at image k) ≡ refuses 7 byte → bad_from image k (suc n) ≡ some k
unfolding bad_from
bad-stop image k n e = rw e

-- if 1 and 6 are not given, the records decide
module _ (image : List ℕ) (taken : sized image ≡ passes) where
  records-decide : takes_image image ≡ layouts_from image 0 (count_of image)
  unfolding takes_image
  records-decide =
      order-passed (over_image image ∷ no_image image ∷ []) (layouts_from image 0 (count_of image) ∷ []) taken
      ∙ order-one (layouts_from image 0 (count_of image))

  records-name : bad_record image ≡ bad_from image 0 (count_of image)
  unfolding bad_record
  records-name = rw taken

module _ (image : List ℕ) {number : ℕ} (j : Judging image number) where
  pub judging-more : number < count_of image → layout (record_at image number) ≡ passes → Judging image (number + 1)
  judging-more h e = rw add-one (more j.left j.sum j.checks j.names)
    where
      more : (n : ℕ) → number + n ≡ count_of image → layouts_from image number n ≡ layouts_from image 0 (count_of image)
          → bad_from image number n ≡ bad_from image 0 (count_of image) → Judging image (suc number)
      more zero s p q = absurd (omega arith)
      more (suc n) s p q = record {
        left = n;
        sum = omega arith;
        checks = sym (layouts-pass image number n e) ∙ p;
        names = sym (bad-pass image number n e) ∙ q;
      }

  module _ (taken : sized image ≡ passes) where
    pub judging-bad : number < count_of image → {byte : ℕ} → layout (record_at image number) ≡ refuses 7 byte → Judges image (Err (BadRecord number byte))
    judging-bad h {byte} e = bad j.left j.sum j.checks j.names
      where
        bad : (n : ℕ) → number + n ≡ count_of image → layouts_from image number n ≡ layouts_from image 0 (count_of image)
            → bad_from image number n ≡ bad_from image 0 (count_of image) → Judges image (Err (BadRecord number byte))
        bad zero s p q = absurd (omega arith)
        bad (suc n) s p q = record {
          answers = rw (records-decide image taken, ← p, layouts-stop image number n e);
          names = rw (records-name image taken, ← q, bad-stop image number n e);
        }

    pub judging-all : count_of image ≤ number → Judges image (Ok (count_of image))
    unfolding layouts_from bad_from
    judging-all h = all j.left j.sum j.checks j.names
      where
        all : (n : ℕ) → number + n ≡ count_of image → layouts_from image number n ≡ layouts_from image 0 (count_of image)
            → bad_from image number n ≡ bad_from image 0 (count_of image) → Judges image (Ok (count_of image))
        all zero s p q = record { answers = rw (records-decide image taken, ← p); names = rw (records-name image taken, ← q) }
        all (suc n) s p q = absurd (omega arith)

-- ---- the call if 1 or 6 is given: v is what these checks said
pub judges-refused : (image : List ℕ) {v : Result (Unit {0}) Refusal} {r : Refusal} → checked v ≡ sized image → v ≡ Err r → Judges image (Err (Refused r))
unfolding takes_image bad_record
judges-refused image e q =
    let p = sym e ∙ ap checked q in
    record {
      answers = rw (order-refused (over_image image ∷ no_image image ∷ []) (layouts_from image 0 (count_of image) ∷ []) p);
      names = rw p;
    }
