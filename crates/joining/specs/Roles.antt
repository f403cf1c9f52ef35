-- Roles: document 01, 'Syllables'. What a code point is to the joiner; which two neighbours join,
-- and to what; the code points that join with nothing before them.
use Rattle.std.specs.Prelude.{◌≡◌, cond, Option, Some, None as Nothing, ℕ, ◌+◌, ◌-◌, ◌*◌, eqb}
use Rattle.letters.specs.Sorts.{sort_of}
use Rattle.letters.specs.declared.sort.Sort.{Sort}
use Rattle.letters.specs.declared.sort.Sort.TheVariants.{ModernInitial, OldInitial, InitialFiller, PeakFiller, ModernPeak, OldPeak, ModernFinal, OldFinal, Lv as SortLv, Lvt, Other}
use Rattle.joining.specs.declared.role.Role.{Role}
use Rattle.joining.specs.declared.role.Role.TheVariants.{Initial as RoleInitial, Peak, Final, Lv as RoleLv, None}

-- ---- what a code point is to the joiner: only modern letters join, and of the syllables only an
-- LV goes on

abbrev pub role_in : Sort → Role
role_in (ModernInitial m) = RoleInitial
role_in (OldInitial m) = None
role_in InitialFiller = None
role_in PeakFiller = None
role_in (ModernPeak m) = Peak
role_in (OldPeak m) = None
role_in (ModernFinal m) = Final
role_in (OldFinal m) = None
role_in SortLv = RoleLv
role_in Lvt = None
role_in Other = None

unfoldable pub role_of : ℕ → Role
role_of c = role_in (sort_of c)

-- ---- two neighbours

-- a modern initial then a modern peak gives AC00 + I·588 + P·28; an LV then a modern final adds
-- final − 11A7; no other two join, and 0 says so
abbrev pub pair_as : Role → Role → ℕ → ℕ → ℕ
pair_as RoleInitial RoleInitial a b = 0
pair_as RoleInitial Peak a b = 0xAC00 + (a - 0x1100) * 588 + (b - 0x1161) * 28
pair_as RoleInitial Final a b = 0
pair_as RoleInitial RoleLv a b = 0
pair_as RoleInitial None a b = 0
pair_as Peak r a b = 0
pair_as Final r a b = 0
pair_as RoleLv RoleInitial a b = 0
pair_as RoleLv Peak a b = 0
pair_as RoleLv Final a b = a + (b - 0x11A7)
pair_as RoleLv RoleLv a b = 0
pair_as RoleLv None a b = 0
pair_as None r a b = 0

unfoldable pub pair : ℕ → ℕ → ℕ
pair a b = pair_as (role_of a) (role_of b) a b

-- a number that says by 0 that there is none, as an option
unfoldable pub nonzero : ℕ → Option ℕ
nonzero n = cond (eqb n 0) Nothing (Some n)

-- what two neighbours join to, if they join
abbrev pub joins : ℕ → ℕ → Option ℕ
joins a b = nonzero (pair a b)

-- ---- what joins with nothing before it

-- neither a modern peak nor a modern final
abbrev pub Hard : ℕ → Type 0
Hard c = (role_of c ≡ Peak → ⊥) × (role_of c ≡ Final → ⊥)
