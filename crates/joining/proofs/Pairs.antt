-- Laws of two neighbours, whatever the two numbers are. THE PAIR LAW: a and b join to s exactly
-- where the one step of s is a and b.
--
-- In order: a number as an option (`none-nonzero`, `some-nonzero`, `nonzero-none`, `nonzero-some`,
-- `nonzero-not`); by roles (`pair-as`, `pair-lv`, `pair-lvt`, `by-pair`, `pair-other`,
-- `pair-before`, `pair-firm`, `pair-after`, `pair-none`); what the code answers (`joins-none`,
-- `joins-some`, `joins-lv`, `joins-lvt`); by numbers (`two-letters`, `lv-letter`,
-- `three-letters`); what two that join make (`lv-made`, `lvt-made`, `pair-syllable`, `pair-good`);
-- the pair law (`pair_step`, `step-pair`, `pair-law`, `by_parts`, `pair_parts`); what joins with
-- nothing more (`lvt-closed`, `no-fourth`, `a7-no-final`, `new_apart`).
use mathlib.Core.Path.{◌≡◌, refl, sym, ◌∙◌, ap}
use mathlib.Core.Bool.{true, false}
use mathlib.Core.Logic.{◌↔◌}
use mathlib.Core.List.{[], ◌∷◌, ◌++◌, append-nil}
use Prim.Native.Nat.{ℕ, ◌+◌, ◌-◌, ◌*◌, ◌≤◌, ◌<◌}
use native.Mathlib.Omega.{arith}
use lib.Dec.{T, eqb}
use lib.ListN.{length}
use borrow.Author.Tests.{ne_eqb, eqb-true, eqb-false}
use Rattle.std.specs.Prelude.{Some, None as Nothing}
use Rattle.laws.specs.Lists.{each}
use Rattle.laws.proofs.Bools.{test}
use Rattle.answers.specs.Checks.{bad}
use Rattle.answers.proofs.Checks.{good-low}
use Rattle.letters.specs.declared.sort.Sort.TheVariants.{Lvt}
use Rattle.letters.specs.Sorts.{sort_of}
use Rattle.letters.specs.Syllables.{is_syllable, index_of, initial_of, peak_of, final_of, one_step, parts_of}
use Rattle.letters.proofs.Steps.{syllable-yes, syllable-least, syllable-most, step-lv, step-lvt, step_other, by-step}
use Rattle.letters.proofs.FullParts.{full-of-step}
use Rattle.letters.proofs.Counts.{known_before}
use Rattle.joining.specs.declared.role.Role.{Role}
use Rattle.joining.specs.declared.role.Role.TheVariants.{Initial as RoleInitial, Peak, Final, Lv as RoleLv, None}
use Rattle.joining.specs.Roles.{role_in, role_of, pair_as, pair, nonzero, joins}
use Rattle.joining.proofs.Roles.{role-between, role-initial, role-peak, role-final, role-lv, role-lvt, initial-range, peak-range, final-range, lv-syllable, lv-final, new_none, firm, hard-as}

-- ---- a number as an option: none if it is 0, else some

pub none-nonzero : {n : ℕ} → n ≡ 0 → Nothing ≡ nonzero n
unfolding nonzero
none-nonzero z = rw z

pub some-nonzero : {n s : ℕ} → s ≡ n → (n ≡ 0 → ⊥) → Some s ≡ nonzero n
unfolding nonzero
some-nonzero {n} e m = rw (ne_eqb n 0 m, e)

-- by cases on the number
by-nonzero : {G : Type 0} (n : ℕ) → (n ≡ 0 → nonzero n ≡ Nothing → G) → ((n ≡ 0 → ⊥) → nonzero n ≡ Some n → G) → G
by-nonzero n none some =
    test (eqb n 0) (λ e. none (eqb-true n 0 e) (sym (none-nonzero (eqb-true n 0 e)))) (λ e. some (eqb-false n 0 e) (sym (some-nonzero refl (eqb-false n 0 e))))

pub nonzero-none : (n : ℕ) → Nothing ≡ nonzero n → n ≡ 0
nonzero-none n e = by-nonzero n (λ z m. z) (λ z m. absurd (cc))

pub nonzero-some : (n : ℕ) {s : ℕ} → Some s ≡ nonzero n → s ≡ n
nonzero-some n e = by-nonzero n (λ z m. absurd (cc)) (λ z m. cc)

pub nonzero-not : (n : ℕ) {s : ℕ} → Some s ≡ nonzero n → s ≡ 0 → ⊥
nonzero-not n e h = by-nonzero n (λ z m. cc) (λ z m. z (cc))

-- ---- by roles

module _ (a b : ℕ) where
  pub pair-as : {r t : Role} → role_of a ≡ r → role_of b ≡ t → pair a b ≡ pair_as r t a b
  unfolding pair
  pair-as p q = rw (p, q)

  pub pair-lv : role_of a ≡ RoleInitial → role_of b ≡ Peak → pair a b ≡ 0xAC00 + (a - 0x1100) * 588 + (b - 0x1161) * 28
  pair-lv p q = pair-as p q

  pub pair-lvt : role_of a ≡ RoleLv → role_of b ≡ Final → pair a b ≡ a + (b - 0x11A7)
  pair-lvt p q = pair-as p q

  -- the two ways to join; no other two join
  pub by-pair : {G : Type 0} → (role_of a ≡ RoleInitial → role_of b ≡ Peak → G) → (role_of a ≡ RoleLv → role_of b ≡ Final → G) → (pair a b ≡ 0 → G) → G
  by-pair {G} lv lvt other = by (role_of a) (role_of b) refl refl
    where
      by : (r t : Role) → role_of a ≡ r → role_of b ≡ t → G
      by RoleInitial RoleInitial p q = other (pair-as p q)
      by RoleInitial Peak p q = lv p q
      by RoleInitial Final p q = other (pair-as p q)
      by RoleInitial RoleLv p q = other (pair-as p q)
      by RoleInitial None p q = other (pair-as p q)
      by Peak t p q = other (pair-as p q)
      by Final t p q = other (pair-as p q)
      by RoleLv RoleInitial p q = other (pair-as p q)
      by RoleLv Peak p q = other (pair-as p q)
      by RoleLv Final p q = lvt p q
      by RoleLv RoleLv p q = other (pair-as p q)
      by RoleLv None p q = other (pair-as p q)
      by None t p q = other (pair-as p q)

  pub pair-other : (role_of a ≡ RoleInitial → role_of b ≡ Peak → ⊥) → (role_of a ≡ RoleLv → role_of b ≡ Final → ⊥) → pair a b ≡ 0
  pair-other m n = by-pair (λ p q. absurd (m p q)) (λ p q. absurd (n p q)) (λ z. z)

  -- b joins with nothing before it, whatever that is, and a with nothing after it
  pub pair-before : (role_of b ≡ Peak → ⊥) → (role_of b ≡ Final → ⊥) → pair a b ≡ 0
  pair-before m n = pair-other (λ p q. m q) (λ p q. n q)

  pub pair-firm : {r : Role} → role_of b ≡ r → T (firm r) → pair a b ≡ 0
  pair-firm e t = let h = hard-as b e t in pair-before h.0 h.1

  pub pair-after : (role_of a ≡ RoleInitial → ⊥) → (role_of a ≡ RoleLv → ⊥) → pair a b ≡ 0
  pair-after m n = pair-other (λ p q. m p) (λ p q. n p)

  pub pair-none : role_of a ≡ None → pair a b ≡ 0
  pair-none p = pair-as p refl

-- THE PROMISE OF `joining::role::joined`, and of the two ways to join
pub joins-none : (a b : ℕ) → (joins a b ≡ Nothing) ↔ (pair a b ≡ 0)
joins-none a b = ((λ e. nonzero-none (pair a b) (sym e)), (λ z. sym (none-nonzero z)))

pub joins-some : (a b s : ℕ) → (joins a b ≡ Some s) ↔ ((s ≡ pair a b) × (pair a b ≡ 0 → ⊥))
joins-some a b s =
    ((λ e. (nonzero-some (pair a b) (sym e), λ z. nonzero-not (pair a b) (sym e) (nonzero-some (pair a b) (sym e) ∙ z))), (λ h. sym (some-nonzero h.0 h.1)))

module _ (a b : ℕ) where
  pub joins-lv : role_of a ≡ RoleInitial → role_of b ≡ Peak → Some (0xAC00 + (a - 0x1100) * 588 + (b - 0x1161) * 28) ≡ joins a b
  joins-lv p q = some-nonzero (sym (pair-lv a b p q)) (λ z. omega (arith, pair-lv a b p q))

  pub joins-lvt : role_of a ≡ RoleLv → role_of b ≡ Final → Some (a + (b - 0x11A7)) ≡ joins a b
  joins-lvt p q = some-nonzero (sym (pair-lvt a b p q)) (λ z. omega (arith, pair-lvt a b p q, final-range b q))

-- ---- by numbers: two letters at a time, and three

pub two-letters : (i p : ℕ) → i < 19 → p < 21 → pair (0x1100 + i) (0x1161 + p) ≡ 0xAC00 + i * 588 + p * 28
two-letters i p hi hp =
    pair-lv _ _ (role-initial (0x1100 + i) (omega arith) (omega arith)) (role-peak (0x1161 + p) (omega arith) (omega arith)) ∙ omega arith

pub lv-letter : (s f : ℕ) → is_syllable s ≡ true → final_of s ≡ 0 → 0 < f → f < 28 → pair s (0x11A7 + f) ≡ s + f
lv-letter s f h e l m = pair-lvt _ _ (role-lv s h e) (role-final (0x11A7 + f) (omega arith) (omega arith)) ∙ omega arith

pub three-letters : (i p f : ℕ) → i < 19 → p < 21 → 0 < f → f < 28
    → pair (pair (0x1100 + i) (0x1161 + p)) (0x11A7 + f) ≡ 0xAC00 + i * 588 + p * 28 + f
three-letters i p f hi hp l m =
    let s = 0xAC00 + i * 588 + p * 28 in
    rw (two-letters i p hi hp) (lv-letter s f (syllable-yes s (omega arith) (omega arith)) (omega arith) l m)

-- ---- what two that join make: an LV, and an LVT

module _ (a b : ℕ) (p : role_of a ≡ RoleInitial) (q : role_of b ≡ Peak) where
  lv-is-syllable : is_syllable (pair a b) ≡ true
  lv-is-syllable = syllable-yes (pair a b) (omega (arith, pair-lv a b p q)) (omega (arith, pair-lv a b p q, initial-range a p, peak-range b q))

  lv-no-final : final_of (pair a b) ≡ 0
  lv-no-final = omega (arith, pair-lv a b p q)

  pub lv-made : role_of (pair a b) ≡ RoleLv
  lv-made = role-lv (pair a b) lv-is-syllable lv-no-final

  lv-step : one_step (pair a b) ≡ a ∷ b ∷ []
  lv-step =
      let i : 0x1100 + initial_of (pair a b) ≡ a = omega (arith, pair-lv a b p q, initial-range a p, peak-range b q) in
      let v : 0x1161 + peak_of (pair a b) ≡ b = omega (arith, pair-lv a b p q, initial-range a p, peak-range b q) in
      cc (step-lv (pair a b) lv-is-syllable lv-no-final)

module _ (s f : ℕ) (p : role_of s ≡ RoleLv) (q : role_of f ≡ Final) where
  -- an LV lies between AC00 and D788
  lv-least : 0xAC00 ≤ s
  lv-least = syllable-least s (lv-syllable s p)

  lv-most : s ≤ 0xD788
  lv-most = omega (arith, syllable-most s (lv-syllable s p), lv-final s p)

  lvt-is-syllable : is_syllable (pair s f) ≡ true
  lvt-is-syllable = syllable-yes (pair s f) (omega (arith, pair-lvt s f p q, lv-least)) (omega (arith, pair-lvt s f p q, lv-most, final-range f q))

  lvt-final : 0x11A7 + final_of (pair s f) ≡ f
  lvt-final = omega (arith, pair-lvt s f p q, lv-least, lv-final s p, final-range f q)

  lvt-some-final : final_of (pair s f) ≡ 0 → ⊥
  lvt-some-final e = omega (arith, lvt-final, final-range f q)

  pub lvt-made : role_of (pair s f) ≡ None
  lvt-made = role-lvt (pair s f) lvt-is-syllable lvt-some-final

  lvt-step : one_step (pair s f) ≡ s ∷ f ∷ []
  lvt-step =
      let lv : 0xAC00 + (index_of (pair s f) - final_of (pair s f)) ≡ s = omega (arith, pair-lvt s f p q, lv-least, lvt-final) in
      cc (step-lvt (pair s f) lvt-is-syllable lvt-some-final, lvt-final)

-- so two that join make a syllable
pub pair-syllable : (a b : ℕ) → (pair a b ≡ 0 → ⊥) → is_syllable (pair a b) ≡ true
pair-syllable a b n = by-pair a b (lv-is-syllable a b) (lvt-is-syllable a b) (λ z. absurd (n z))

-- syllables lie below the surrogates
pub pair-good : (a b : ℕ) → (pair a b ≡ 0 → ⊥) → bad (pair a b) ≡ false
pair-good a b n = good-low (pair a b) (omega (arith, syllable-most (pair a b) (pair-syllable a b n)))

-- ---- THE PAIR LAW

pub pair_step : (a b : ℕ) → (pair a b ≡ 0 → ⊥) → one_step (pair a b) ≡ a ∷ b ∷ []
pair_step a b n = by-pair a b (lv-step a b) (lvt-step a b) (λ z. absurd (n z))

lv-joins : (s : ℕ) → is_syllable s ≡ true → final_of s ≡ 0 → pair (0x1100 + initial_of s) (0x1161 + peak_of s) ≡ s
lv-joins s h e =
    let l = syllable-least s h in
    let m = syllable-most s h in
    two-letters (initial_of s) (peak_of s) (omega arith) (omega arith) ∙ omega arith

lvt-joins : (s : ℕ) → is_syllable s ≡ true → (final_of s ≡ 0 → ⊥) → pair (0xAC00 + (index_of s - final_of s)) (0x11A7 + final_of s) ≡ s
lvt-joins s h n =
    let l = syllable-least s h in
    let m = syllable-most s h in
    let lv = 0xAC00 + (index_of s - final_of s) in
    lv-letter lv (final_of s) (syllable-yes lv (omega arith) (omega arith)) (omega arith) (omega arith) (omega arith) ∙ omega arith

pub step-pair : (a b s : ℕ) → one_step s ≡ a ∷ b ∷ [] → pair a b ≡ s
step-pair a b s e =
    by-step s (λ h f. cc (step-lv s h f, lv-joins s h f)) (λ h f. cc (step-lvt s h f, lvt-joins s h f))
    (λ h. absurd (omega (arith, ap length (sym (step_other s h) ∙ e))))

pub pair-law : (a b s : ℕ) → (s ≡ 0 → ⊥) → (pair a b ≡ s) ↔ (one_step s ≡ a ∷ b ∷ [])
pair-law a b s n = ((λ e. rw e at (pair_step a b (λ z. n (sym e ∙ z)))), step-pair a b s)

-- by cases on a code point: its one step is itself, or two that join to it
pub by_parts : {G : Type 0} (c : ℕ) → (one_step c ≡ c ∷ [] → G) → ((a b : ℕ) → one_step c ≡ a ∷ b ∷ [] → (pair a b ≡ 0 → ⊥) → G) → G
by_parts c itself two =
    by-step c (λ h e. two _ _ (step-lv c h e) (λ z. omega (arith, z, lv-joins c h e, syllable-least c h)))
    (λ h e. two _ _ (step-lvt c h e) (λ z. omega (arith, z, lvt-joins c h e, syllable-least c h))) (λ h. itself (step_other c h))

-- the full parts of what two join to are theirs
pub pair_parts : (a b : ℕ) → (pair a b ≡ 0 → ⊥) → parts_of (pair a b) ≡ parts_of a ++ parts_of b
unfolding each
pair_parts a b n = simp (pair_step a b n, append-nil) at (sym (full-of-step (pair a b ∷ [])))

-- ---- what joins with nothing more

pub lvt-closed : (s f : ℕ) → sort_of s ≡ Lvt → pair s f ≡ 0
unfolding role_of
lvt-closed s f e = pair-none s f (ap role_in e)

pub no-fourth : (a b c d : ℕ) → pair (pair (pair a b) c) d ≡ 0
no-fourth a b c d =
    by-pair (pair a b) c (λ p q. absurd (no-letter p)) (λ p q. pair-none (pair (pair a b) c) d (lvt-made (pair a b) c p q))
    (λ z. rw z (pair-none 0 d zero-role))
  where
    zero-role : role_of 0 ≡ None
    zero-role = role-between 0 0x10FF 0 tt (omega arith) (omega arith)

    no-letter : role_of (pair a b) ≡ RoleInitial → ⊥
    no-letter e =
        let r = initial-range (pair a b) e in
        by-pair a b (λ p q. omega (arith, pair-lv a b p q)) (λ p q. omega (arith, pair-lvt a b p q, syllable-least a (lv-syllable a p))) (λ z. omega arith)

-- U+11A7, the number before the first final, is no final but an old peak
pub a7-no-final : (s : ℕ) → pair s 0x11A7 ≡ 0
a7-no-final s = pair-before s 0x11A7 (λ e. omega (arith, peak-range 0x11A7 e)) (λ e. omega (arith, final-range 0x11A7 e))

-- what was other in document 01, and so every letter that document 02, #106, adds, joins with
-- nothing before it and nothing after it
pub new_apart : (a c b : ℕ) → known_before c ≡ false → (pair a c ≡ 0) × (pair c b ≡ 0)
new_apart a c b n = (pair-firm a c (new_none c n) tt, pair-none c b (new_none c n))
