-- Mending: document 01, 'Bytes'. A text of units is read, each ill-formed subpart as one FFFD,
-- joined, and written in the same form: over any encoding form, and in short names at UTF-8. And
-- what demand 3 says of two texts with the same beginning and the same ending, as a statement over
-- what two calls leave in their buffers (`SameAround`). The places that demand 3 names stand in
-- crate encodings, specs/Damage; here they are taken at the form and the joiner.
use Rattle.std.specs.Prelude.{◌≡◌, Bool, true, false, List, ℕ, take}
use Rattle.joining.specs.Roles.{role_of}
use Rattle.joining.specs.declared.role.Role.{Role}
use Rattle.joining.specs.declared.role.Role.TheVariants.{Initial, Peak, Final, Lv, None}
use Rattle.joining.specs.Joining.{join}
use Rattle.encodings.specs.Damage.{Transformation, StartsWith, EndsWith, beginning, ending}
use Rattle.encodings.specs.Forms.{Form, read_in, write_in}
use Rattle.encodings.specs.declared.answer.Counted.{Counted}
use Rattle.utf8.specs.Utf8.{form8}

-- THE MENDED TEXT
unfoldable pub mended_in : Form → List ℕ → List ℕ
mended_in f text = write_in f (join (read_in f text))

abbrev pub mended : List ℕ → List ℕ
mended = mended_in form8

-- demand 3's 'vowel or final': the modern letters that join with what stands before them
abbrev pub soft_as : Role → Bool
soft_as Initial = false
soft_as Peak = true
soft_as Final = true
soft_as Lv = false
soft_as None = false

unfoldable pub soft : ℕ → Bool
soft c = soft_as (role_of c)

-- what mending makes of the code points that it reads
abbrev pub joined_in : Form → Transformation ℕ
joined_in f = record { make = λ x. write_in f (join x); soft = soft }

abbrev pub joined_bytes : Transformation ℕ
joined_bytes = joined_in form8

-- ---- demand 3, over what two calls leave

-- what a call that is done filled: the front of the buffer, as long as it answered
abbrev pub filled_front : Counted → List ℕ → List ℕ
filled_front r out' = take r.length out'

-- two texts with the same beginning b and the same ending z, mended: what the two calls filled, v
-- and w, has one start and one finish in common, and these are what b up to its place and z from
-- its place are mended to
pub record SameAroundIn (f : Form) (b z v w : List ℕ) : Type 0 where
  pub start : List ℕ
  pub finish : List ℕ
  pub start_is : start ≡ mended_in f (beginning f.encoding (joined_in f) b)
  pub finish-is : finish ≡ mended_in f (ending f.encoding (joined_in f) z)
  pub first-starts : StartsWith v start
  pub second-starts : StartsWith w start
  pub first_ends : EndsWith v finish
  pub second-ends : EndsWith w finish

abbrev pub SameAround : List ℕ → List ℕ → List ℕ → List ℕ → Type 0
SameAround = SameAroundIn form8
