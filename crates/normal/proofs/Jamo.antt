-- Laws of the database `jamo`, character by character: its combining classes, and its primary
-- composites, which are what the joiner's `pair` gives, and the one step undone.
--
-- In order: the combining class; the ranges of L, V, T and LV; composites and `pair`
-- (`composite-pair`); composites and the one step (`composite-step`, `step-composite`), so that
-- what composes is a starter (`composite-starters`).
use mathlib.Core.Path.{◌≡◌, refl, sym, ◌∙◌}
use mathlib.Core.Bool.{Bool, true, false, cond, ◌&&◌, false≢true}
use mathlib.Core.Logic.{◌⊎◌, inl, inr, ⊎_elim}
use mathlib.Core.Option.{Option, none, some, none-ne-some, some-injective}
use mathlib.Core.List.{[], ◌∷◌}
use Prim.Native.Nat.{ℕ, ◌+◌, ◌-◌, ◌%◌, ◌≤◌, ◌<◌}
use native.Mathlib.Omega.{arith}
use lib.Dec.{leb, ltb, eqb}
use borrow.Author.Tests.{leb-true, ltb-true, le-leb, lt-ltb, eqb-true, eqb-false, eq-eqb, ne_eqb}
use Rattle.laws.specs.Lists.{All, also}
use Rattle.laws.specs.Ranges.{within}
use Rattle.laws.proofs.Bools.{test, and_left, and_right}
use Rattle.laws.proofs.Ranges.{within-yes, within-below, within-above}
use Rattle.letters.specs.Syllables.{is_syllable, final_of, one_step}
use Rattle.letters.specs.Chapter3.{s_base, l_base, v_base, l_count, v_count, t_count, s_index, precomposed}
use Rattle.letters.proofs.Steps.{syllable-yes, syllable-least}
use Rattle.letters.proofs.Chapter3.{precomposed-is}
use Rattle.joining.specs.Roles.{pair}
use Rattle.normal.specs.Jamo.{tone_class, t_index, is_l, is_v, is_t, is_lv, lv_index, composite}
use Rattle.normal.proofs.Steps.{by_two, two-syllable, Part, letter, whole, step-parts}
use Rattle.joining.proofs.Roles.{role-initial, role-peak, role-final, role-lv}
use Rattle.joining.proofs.Pairs.{pair-lv, pair-lvt, pair_step, step-pair}

-- ---- the combining class

module _ (c : ℕ) where
  pub class-tone : 0x302E ≤ c → c ≤ 0x302F → tone_class c ≡ 224
  unfolding tone_class
  class-tone l h = rw (within-yes 0x302E 0x302F c l h)

  pub class-below : c < 0x302E → tone_class c ≡ 0
  unfolding tone_class
  class-below h = rw (within-below 0x302E 0x302F c h)

  pub class-above : 0x302F < c → tone_class c ≡ 0
  unfolding tone_class
  class-above h = rw (within-above 0x302E 0x302F c h)

  -- there is one class beside 0
  pub class-either : (tone_class c ≡ 224) ⊎ (tone_class c ≡ 0)
  unfolding tone_class
  class-either = test (within 0x302E 0x302F c) (λ h. inl (rw h)) (λ h. inr (rw h))

part-class : {c : ℕ} → Part c → tone_class c ≡ 0
part-class {c} (letter l m) = class-below c (omega arith)
part-class {c} (whole l m) = class-above c (omega arith)

-- ---- L, V, T and LV by their ranges, and back

-- an index below a count
module _ (base count c : ℕ) where
  counted-yes : base ≤ c → c < base + count → (leb base c && ltb (c - base) count) ≡ true
  counted-yes l h = rw (le-leb base c l) (lt-ltb (c - base) count (omega arith))

  counted-range : (leb base c && ltb (c - base) count) ≡ true → (base ≤ c) × (c < base + count)
  counted-range e =
      let l = leb-true base c (and_left (leb base c) _ e) in
      let h = ltb-true (c - base) count (and_right (leb base c) _ e) in
      (l, omega arith)

module _ (c : ℕ) where
  L-range : is_l c ≡ true → (0x1100 ≤ c) × (c ≤ 0x1112)
  unfolding is_l
  L-range e = let w = counted-range l_base l_count c e in (w.0, omega arith)

  L-yes : 0x1100 ≤ c → c ≤ 0x1112 → is_l c ≡ true
  unfolding is_l
  L-yes l h = counted-yes l_base l_count c l (omega arith)

  V-range : is_v c ≡ true → (0x1161 ≤ c) × (c ≤ 0x1175)
  unfolding is_v
  V-range e = let w = counted-range v_base v_count c e in (w.0, omega arith)

  V-yes : 0x1161 ≤ c → c ≤ 0x1175 → is_v c ≡ true
  unfolding is_v
  V-yes l h = counted-yes v_base v_count c l (omega arith)

  T-range : is_t c ≡ true → (0x11A8 ≤ c) × (c ≤ 0x11C2)
  unfolding is_t
  T-range e =
      let l = ltb-true 0 (t_index c) (and_left (ltb 0 (t_index c)) _ e) in
      let h = ltb-true (t_index c) t_count (and_right (ltb 0 (t_index c)) _ e) in
      (omega arith, omega arith)

  T-yes : 0x11A8 ≤ c → c ≤ 0x11C2 → is_t c ≡ true
  unfolding is_t
  T-yes l h = rw (lt-ltb 0 (t_index c) (omega arith)) (lt-ltb (t_index c) t_count (omega arith))

  LV-range : is_lv c ≡ true → (is_syllable c ≡ true) × (final_of c ≡ 0)
  unfolding is_lv
  LV-range e =
      let h = and_left (precomposed c) _ e in
      let f = and_right (precomposed c) _ e in
      (sym (precomposed-is c) ∙ h, eqb-true (s_index c % t_count) 0 f)

  LV-yes : is_syllable c ≡ true → final_of c ≡ 0 → is_lv c ≡ true
  unfolding is_lv
  LV-yes h f = rw (precomposed-is c, h) (eq-eqb (final_of c) 0 f)

-- ---- composites and `pair`

-- the two tests of `composite`
abbrev lv_test : ℕ → ℕ → Bool
lv_test l c = is_l l && is_v c

abbrev lvt_test : ℕ → ℕ → Bool
lvt_test l c = is_lv l && is_t c

-- one of them passes where l and c are the parts of a syllable
step-tests : (s l c : ℕ) → one_step s ≡ l ∷ c ∷ [] → (lv_test l c ≡ true) ⊎ (lvt_test l c ≡ true)
step-tests s l c e =
    by_two s l c e (λ k m f p q. inl (rw (L-yes l (omega arith) (omega arith)) (V-yes c (omega arith) (omega arith))))
    (λ k m f p q. inr (rw (LV-yes l (syllable-yes l (omega arith) (omega arith)) (omega arith)) (T-yes c (omega arith) (omega arith))))

-- the composite that a number p stands for: none where it is 0
abbrev pub unless_zero : ℕ → Option ℕ
unless_zero p = cond (eqb p 0) none (some p)

nonzero : (p : ℕ) → (p ≡ 0 → ⊥) → unless_zero p ≡ some p
nonzero p n = rw (ne_eqb p 0 n)

module _ (l c : ℕ) where
  composes-lv : lv_test l c ≡ true → composite l c ≡ unless_zero (pair l c)
  unfolding composite
  composes-lv q =
      let i = L-range l (and_left (is_l l) (is_v c) q) in
      let v = V-range c (and_right (is_l l) (is_v c) q) in
      let e : pair l c ≡ s_base + lv_index l c = pair-lv l c (role-initial l i.0 i.1) (role-peak c v.0 v.1) ∙ omega arith in
      rw (q, e) (sym (nonzero (s_base + lv_index l c) (omega arith)))

  composes-lvt : lv_test l c ≡ false → lvt_test l c ≡ true → composite l c ≡ unless_zero (pair l c)
  unfolding composite
  composes-lvt q r =
      let s = LV-range l (and_left (is_lv l) (is_t c) r) in
      let t = T-range c (and_right (is_lv l) (is_t c) r) in
      let k = syllable-least l s.0 in
      let e : pair l c ≡ l + t_index c = pair-lvt l c (role-lv l s.0 s.1) (role-final c t.0 t.1) in
      rw (q, r, e) (sym (nonzero (l + t_index c) (omega arith)))

  composes-not : lv_test l c ≡ false → lvt_test l c ≡ false → composite l c ≡ unless_zero (pair l c)
  unfolding composite
  composes-not q r = rw (q, r) (test (eqb (pair l c) 0) (λ z. rw z) (λ z. absurd (tests (eqb-false (pair l c) 0 z))))
    where
      tests : (pair l c ≡ 0 → ⊥) → ⊥
      tests n =
          ⊎_elim (λ t. false≢true (sym q ∙ t)) (λ t. false≢true (sym r ∙ t)) (step-tests (pair l c) l c (pair_step l c n))

  -- THE COMPOSITE OF TWO CHARACTERS IS WHAT THE JOINER'S `pair` GIVES
  pub composite-pair : composite l c ≡ unless_zero (pair l c)
  composite-pair = test (lv_test l c) composes-lv (λ q. test (lvt_test l c) (composes-lvt q) (composes-not q))

-- ---- composites and the one step: each is the inverse of the other

pub composite-step : (l c p : ℕ) → composite l c ≡ some p → one_step p ≡ l ∷ c ∷ []
composite-step l c p e = by (eqb (pair l c) 0) refl (sym (composite-pair l c) ∙ e)
  where
    by : (b : Bool) → eqb (pair l c) 0 ≡ b → cond b none (some (pair l c)) ≡ some p → one_step p ≡ l ∷ c ∷ []
    by true q f = absurd (none-ne-some _ f)
    by false q f = rw (← (some-injective _ _ f)) (pair_step l c (eqb-false (pair l c) 0 q))

pub step-composite : (l c p : ℕ) → one_step p ≡ l ∷ c ∷ [] → composite l c ≡ some p
step-composite l c p e =
    let z = syllable-least p (two-syllable p l c e) in
    composite-pair l c ∙ rw (step-pair l c p e) (nonzero p (omega arith))

-- the two that compose are starters
two-classes : {l c : ℕ} → All Part (l ∷ c ∷ []) → (tone_class l ≡ 0) × (tone_class c ≡ 0)
two-classes (also h (also k r)) = (part-class h, part-class k)

pub composite-starters : (l c p : ℕ) → composite l c ≡ some p → (tone_class l ≡ 0) × (tone_class c ≡ 0)
composite-starters l c p e =
    let s = composite-step l c p e in
    two-classes (rw s at (step-parts p (two-syllable p l c s)))
