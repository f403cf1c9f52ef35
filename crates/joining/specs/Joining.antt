-- Joining: document 01, 'Syllables'. The joiner as a machine that reads a text from the left and
-- carries what is still open: nothing, an initial, or an LV. Canonical composition, as the Standard
-- defines it (crate normal), is shown to give the same.
use Rattle.std.specs.Prelude.{cond, List, [], ◌∷◌, ◌++◌, ℕ, eqb}
use Rattle.laws.specs.Machines.{Machine, whole}
use Rattle.joining.specs.declared.role.Role.{Role}
use Rattle.joining.specs.declared.role.Role.TheVariants.{Initial as RoleInitial, Peak, Final, Lv as RoleLv, None}
use Rattle.joining.specs.Roles.{role_of, pair}
use Rattle.joining.specs.declared.joiner.Open.{Open}
use Rattle.joining.specs.declared.joiner.Open.TheVariants.{Nothing, Initial, Lv}

-- what a code point leaves open
abbrev pub opens_as : Role → ℕ → Open
opens_as RoleInitial c = Initial c
opens_as Peak c = Nothing
opens_as Final c = Nothing
opens_as RoleLv c = Lv c
opens_as None c = Nothing

unfoldable pub opens : ℕ → Open
opens c = opens_as (role_of c) c

-- what is open, as text
abbrev pub held : Open → List ℕ
held Nothing = []
held (Initial i) = i ∷ []
held (Lv s) = s ∷ []

-- what is open and the code point c, where they are neighbours: what they join to, or 0
abbrev pub meets : Open → ℕ → ℕ
meets Nothing c = 0
meets (Initial i) c = pair i c
meets (Lv s) c = pair s c

-- c itself, unless it stays open
abbrev pub unless : Open → ℕ → List ℕ
unless Nothing c = c ∷ []
unless (Initial i) c = []
unless (Lv s) c = []

-- a step: what is open and c join to j, and what j leaves open is open now; or they do not (j is
-- 0), what was open is written, and c is as from the start
abbrev pub join_step : Open → ℕ → Open
join_step o c = opens (cond (eqb (meets o c) 0) c (meets o c))

abbrev pub join_emit : Open → ℕ → List ℕ
join_emit o c = cond (eqb (meets o c) 0) (held o ++ unless (opens c) c) (unless (opens (meets o c)) (meets o c))

abbrev pub joiner : Machine Open ℕ ℕ
joiner = record { start = Nothing; step = join_step; emit = join_emit; flush = held }

-- the joined text
abbrev pub join : List ℕ → List ℕ
join text = whole joiner text
