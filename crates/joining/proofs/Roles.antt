-- Laws of the roles: what a code point is to the joiner, from where it lies, and where it lies,
-- from what it is to the joiner.
--
-- In order: forwards (`role-between`, `role-initial`, `role-peak`, `role-final`, `role-lv`,
-- `role-lvt`); backwards (`initial-range`, `peak-range`, `final-range`, `lv-syllable`, `lv-final`);
-- by cases, and what is no modern letter and no syllable (`by-role`, `role-none`); the roles as
-- they were before document 02, #106 (`roles-kept`), and the letters that it adds (`new_none`); the
-- roles that join with nothing before them (`firm`, `hard-as`).
use mathlib.Core.Path.{◌≡◌, refl, sym, ◌∙◌, ap}
use mathlib.Core.Bool.{Bool, true, false, cond, ◌&&◌, ◌||◌, true≢false}
use mathlib.Core.List.{List, [], ◌∷◌}
use Prim.Native.Nat.{ℕ, ◌≤◌}
use native.Mathlib.Omega.{arith}
use lib.Dec.{T, eqb}
use borrow.Author.Tests.{eqb-true, eqb-false}
use Rattle.laws.specs.Ranges.{within, Range, range, look}
use Rattle.laws.proofs.Bools.{test, and-T-left, and-T-right, or_left, or_right}
use Rattle.laws.proofs.Ranges.{within-yes, within-least, within-most, between, uncut}
use Rattle.letters.specs.declared.sort.Make.{Make}
use Rattle.letters.specs.declared.sort.Sort.{Sort}
use Rattle.letters.specs.declared.sort.Sort.TheVariants.{ModernInitial, OldInitial, InitialFiller, PeakFiller, ModernPeak, OldPeak, ModernFinal, OldFinal, Lv as SortLv, Lvt, Other}
use Rattle.letters.specs.Sorts.{Class, modern_initial, old_initial, initial_filler, peak_filler, modern_peak, old_peak, modern_final, old_final, neither, class_ranges, class_of, make_of, sort_in, sort_of}
use Rattle.letters.specs.Syllables.{is_syllable, final_of}
use Rattle.letters.proofs.Sorts.{beside, no-syllable, class-between, sort-class, sort-lv, sort-lvt, class_in, sort-is-class, modern-initial-range, modern-peak-range, modern-final-range, lv-range}
use Rattle.letters.proofs.Steps.{syllable-yes, syllable-least, syllable-most}
use Rattle.letters.proofs.Counts.{known_before}
use Rattle.joining.specs.declared.role.Role.{Role}
use Rattle.joining.specs.declared.role.Role.TheVariants.{Initial as RoleInitial, Peak, Final, Lv as RoleLv, None}
use Rattle.joining.specs.Roles.{role_in, role_of, Hard}

-- ---- forwards: from the range to the role

-- the role of a class: the joiner passes over what a letter is made of
abbrev pub role_as : Class → Role
role_as modern_initial = RoleInitial
role_as old_initial = None
role_as initial_filler = None
role_as peak_filler = None
role_as modern_peak = Peak
role_as old_peak = None
role_as modern_final = Final
role_as old_final = None
role_as neither = None

role-as : (k : Class) (m : Make) → role_in (sort_in k m) ≡ role_as k
role-as modern_initial m = refl
role-as old_initial m = refl
role-as initial_filler m = refl
role-as peak_filler m = refl
role-as modern_peak m = refl
role-as old_peak m = refl
role-as modern_final m = refl
role-as old_final m = refl
role-as neither m = refl

-- THE ROLE BETWEEN TWO BOUNDS that lie before the syllables or after them: both tests compute
-- where lo and hi are numerals
pub role-between : (lo hi c : ℕ) → T (beside lo hi && uncut lo hi class_ranges) → lo ≤ c → c ≤ hi → role_of c ≡ role_as (between neither lo hi class_ranges)
unfolding role_of
role-between lo hi c t l h =
    let b = and-T-left (beside lo hi) (uncut lo hi class_ranges) t in
    let u = and-T-right (beside lo hi) (uncut lo hi class_ranges) t in
    ap role_in (sym (sort-class c (no-syllable lo hi c b l h))) ∙ role-as (class_of c) (make_of c) ∙ ap role_as (sym (class-between lo hi u l h))

module _ (c : ℕ) where
  pub role-initial : 0x1100 ≤ c → c ≤ 0x1112 → role_of c ≡ RoleInitial
  role-initial l h = role-between 0x1100 0x1112 c tt l h

  pub role-peak : 0x1161 ≤ c → c ≤ 0x1175 → role_of c ≡ Peak
  role-peak l h = role-between 0x1161 0x1175 c tt l h

  pub role-final : 0x11A8 ≤ c → c ≤ 0x11C2 → role_of c ≡ Final
  role-final l h = role-between 0x11A8 0x11C2 c tt l h

  pub role-lv : is_syllable c ≡ true → final_of c ≡ 0 → role_of c ≡ RoleLv
  unfolding role_of
  role-lv h e = sym (ap role_in (sort-lv (syllable-least c h) (syllable-most c h) e))

  pub role-lvt : is_syllable c ≡ true → (final_of c ≡ 0 → ⊥) → role_of c ≡ None
  unfolding role_of
  role-lvt h n = sym (ap role_in (sort-lvt (syllable-least c h) (syllable-most c h) n))

-- ---- backwards: from the role to the range

-- what a role but `None` says of the sort, or of its class
abbrev Told : Role → Sort → Type 0
Told RoleInitial s = class_in s ≡ modern_initial
Told Peak s = class_in s ≡ modern_peak
Told Final s = class_in s ≡ modern_final
Told RoleLv s = s ≡ SortLv
Told None s = T true

told : (s : Sort) → Told (role_in s) s
told (ModernInitial m) = refl
told (OldInitial m) = tt
told InitialFiller = tt
told PeakFiller = tt
told (ModernPeak m) = refl
told (OldPeak m) = tt
told (ModernFinal m) = refl
told (OldFinal m) = tt
told SortLv = refl
told Lvt = tt
told Other = tt

role-told : (c : ℕ) {r : Role} → role_of c ≡ r → Told r (sort_of c)
unfolding role_of
role-told c e = rw e at (told (sort_of c))

role-class : (c : ℕ) {k : Class} → class_in (sort_of c) ≡ k → class_of c ≡ k
role-class c e = sym (sort-is-class c) ∙ e

module _ (c : ℕ) where
  pub initial-range : role_of c ≡ RoleInitial → (0x1100 ≤ c) × (c ≤ 0x1112)
  initial-range e = modern-initial-range c (role-class c (role-told c e))

  pub peak-range : role_of c ≡ Peak → (0x1161 ≤ c) × (c ≤ 0x1175)
  peak-range e = modern-peak-range c (role-class c (role-told c e))

  pub final-range : role_of c ≡ Final → (0x11A8 ≤ c) × (c ≤ 0x11C2)
  final-range e = modern-final-range c (role-class c (role-told c e))

  pub lv-syllable : role_of c ≡ RoleLv → is_syllable c ≡ true
  lv-syllable e = let r = lv-range c (role-told c e) in syllable-yes c r.0 r.1

  pub lv-final : role_of c ≡ RoleLv → final_of c ≡ 0
  lv-final e = (lv-range c (role-told c e)).2

-- ---- by cases

pub by-role : {G : Type 0} (c : ℕ)
    → (role_of c ≡ RoleInitial → G) → (role_of c ≡ Peak → G) → (role_of c ≡ Final → G) → (role_of c ≡ RoleLv → G) → (role_of c ≡ None → G) → G
by-role {G} c initial peak final lv none = by (role_of c) refl
  where
    by : (r : Role) → role_of c ≡ r → G
    by RoleInitial e = initial e
    by Peak e = peak e
    by Final e = final e
    by RoleLv e = lv e
    by None e = none e

-- what is no modern letter and no syllable
pub role-none : (c : ℕ) → ((0x1100 ≤ c) × (c ≤ 0x1112) → ⊥) → ((0x1161 ≤ c) × (c ≤ 0x1175) → ⊥) → ((0x11A8 ≤ c) × (c ≤ 0x11C2) → ⊥)
    → (is_syllable c ≡ true → ⊥) → role_of c ≡ None
role-none c i p f s =
    by-role c (λ e. absurd (i (initial-range c e))) (λ e. absurd (p (peak-range c e))) (λ e. absurd (f (final-range c e))) (λ e. absurd (s (lv-syllable c e)))
    (λ e. e)

-- ---- document 02, #106, changes no role: modern letters, by the ranges of document 01, and LVs
-- have one, and no other code point

abbrev pub kept_roles : List (Range Role)
kept_roles = range 0x1100 0x1112 RoleInitial ∷ range 0x1161 0x1175 Peak ∷ range 0x11A8 0x11C2 Final ∷ []

outside : (lo hi c : ℕ) → within lo hi c ≡ false → (lo ≤ c) × (c ≤ hi) → ⊥
outside lo hi c e h = true≢false (sym (within-yes lo hi c h.0 h.1) ∙ e)

pub roles-kept : (c : ℕ) → role_of c ≡ cond (is_syllable c) (cond (eqb (final_of c) 0) RoleLv None) (look None c kept_roles)
roles-kept c = test (is_syllable c) syllable (λ s. simp s (letter s))
  where
    syllable : is_syllable c ≡ true → role_of c ≡ cond (is_syllable c) (cond (eqb (final_of c) 0) RoleLv None) (look None c kept_roles)
    syllable s = test (eqb (final_of c) 0) (λ e. simp (s, e) (role-lv c s (eqb-true _ _ e))) (λ e. simp (s, e) (role-lvt c s (eqb-false _ _ e)))

    letter : is_syllable c ≡ false → role_of c ≡ look None c kept_roles
    letter s =
        test (within 0x1100 0x1112 c) (λ i. simp i (role-initial c (within-least _ _ c i) (within-most _ _ c i)))
        (λ i.
        test (within 0x1161 0x1175 c) (λ p. simp (i, p) (role-peak c (within-least _ _ c p) (within-most _ _ c p)))
        (λ p.
        test (within 0x11A8 0x11C2 c) (λ f. simp (i, p, f) (role-final c (within-least _ _ c f) (within-most _ _ c f)))
        (λ f.
        simp (i, p, f)
        (role-none c (outside 0x1100 0x1112 c i) (outside 0x1161 0x1175 c p) (outside 0x11A8 0x11C2 c f) (λ t. true≢false (sym t ∙ s))))))

-- what was other in document 01 has no role, and so none of the letters that #106 adds
pub new_none : (c : ℕ) → known_before c ≡ false → role_of c ≡ None
unfolding is_syllable
new_none c n =
    let peaks = or_right (within 0x1100 0x1159 c) (within 0x115F 0x11A2 c || (within 0x11A8 0x11F9 c || within 0xAC00 0xD7A3 c)) n in
    let finals = or_right (within 0x115F 0x11A2 c) (within 0x11A8 0x11F9 c || within 0xAC00 0xD7A3 c) peaks in
    let syllables = or_right (within 0x11A8 0x11F9 c) (within 0xAC00 0xD7A3 c) finals in
    role-none c (λ h. outside 0x1100 0x1159 c (or_left _ _ n) (h.0, omega (arith, h.1)))
    (λ h. outside 0x115F 0x11A2 c (or_left _ _ peaks) (omega (arith, h.0), omega (arith, h.1)))
    (λ h. outside 0x11A8 0x11F9 c (or_left _ _ finals) (h.0, omega (arith, h.1))) (λ e. true≢false (sym e ∙ syllables))

-- ---- hard: a code point with any role but peak and final

abbrev pub firm : Role → Bool
firm RoleInitial = true
firm Peak = false
firm Final = false
firm RoleLv = true
firm None = true

pub hard-as : (c : ℕ) {r : Role} → role_of c ≡ r → T (firm r) → Hard c
hard-as c e t = ((λ p. rw (sym e ∙ p) at t), (λ p. rw (sym e ∙ p) at t))
