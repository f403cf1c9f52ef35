-- The accident: "The name had reached us once as finished syllables and once as single letters. On
-- paper the two look alike; our tool took them for two boats. A visiting yacht was sent to the
-- berth and found it full." On document 01's repertoire what mending makes of two names is one and
-- the same text of bytes exactly when the Unicode Standard calls them canonically equivalent (D70);
-- of whatever characters, only then. Statements over any two calls of mending that are done;
-- nothing is proved here.
use Rattle.std.specs.Prelude.{◌≡◌, false, ◌↔◌, List, ℕ, Ok}
use Rattle.laws.specs.Lists.{All}
use Rattle.answers.specs.Checks.{bad}
use Rattle.letters.specs.Syllables.{full_parts}
use Rattle.normal.specs.Forms.{Database, Equivalent}
use Rattle.normal.specs.Repertoire.{Repertoire, Ucd}
use Rattle.encodings.specs.declared.answer.Counted.{Counted}
use Rattle.utf8.specs.Utf8.{read_text, write_text}
use Rattle.utf8.specs.Reading.{Reads}
use Rattle.mending.specs.Mending.{mended, filled_front}

-- a call of mending on these bytes was done, and this is what it wrote
pub record Mended (bytes written : List ℕ) : Type 0 where
  pub lent : List ℕ
  pub after : List ℕ
  pub answer : Counted
  pub call : Reads mended bytes lent (Ok answer) after
  pub is : written ≡ filled_front answer after

-- ONE BOAT: a name as it stands, and the same name taken apart into single letters, are mended to
-- the same bytes
abbrev pub OneBoat : Type 0
OneBoat =
    (name v w : List ℕ) → All (λ c. bad c ≡ false) name
    → Mended (write_text name) v → Mended (write_text (full_parts name)) w → v ≡ w

-- THE SAME BOAT: on document 01's repertoire two names are mended to the same bytes exactly when
-- they are canonically equivalent, for every character database that says of the repertoire what
-- the Unicode Character Database says
abbrev pub SameBoat : Type 0
SameBoat =
    (ucd : Database) → Ucd ucd → (s t v w : List ℕ) → All Repertoire (read_text s) → All Repertoire (read_text t)
    → Mended s v → Mended t w → (v ≡ w) ↔ Equivalent ucd (read_text s) (read_text t)

-- TWO BOATS: names that are not canonically equivalent are never mended to the same bytes, whatever
-- characters they have
abbrev pub TwoBoats : Type 0
TwoBoats =
    (ucd : Database) → Ucd ucd → (s t v w : List ℕ)
    → Mended s v → Mended t w → (Equivalent ucd (read_text s) (read_text t) → ⊥) → v ≡ w → ⊥
