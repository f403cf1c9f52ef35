-- THE THEOREMS of this crate, for every database that says of document 01's repertoire what the UCD
-- says, and for every text of that repertoire: full parts are NFD, joined text is NFC, and two
-- texts are canonically equivalent exactly when they join to the same text. And of every text,
-- whatever its characters: its full parts have its NFD.
--
-- In order: taking apart and composing stay in the repertoire; every such database agrees with
-- `jamo` there; `parts-are-nfd`, `nfd-of-parts`, `joined-equivalent`, `joined-is-nfc` and
-- `equivalent-joined`; and that there is such a database (`jamo-ucd`).
use mathlib.Core.Path.{◌≡◌, refl, sym, ◌∙◌, ap}
use mathlib.Core.Bool.{true, false}
use mathlib.Core.Logic.{inl, inr, ⊎_elim, ◌↔◌}
use mathlib.Core.Option.{some}
use mathlib.Core.List.{List, [], ◌∷◌}
use Prim.Native.Nat.{ℕ, ◌≤◌, ◌<◌}
use Rattle.laws.specs.Lists.{All, also}
use Rattle.laws.specs.Ranges.{within}
use Rattle.laws.proofs.Bools.{test}
use Rattle.laws.proofs.Lists.{all_map, each-one, each-each, each_same}
use Rattle.laws.proofs.Ranges.{within-least, within-most, within-not}
use Rattle.letters.specs.Syllables.{is_syllable, parts_of, full_parts}
use Rattle.letters.specs.Chapter3.{precomposed, mapping}
use Rattle.letters.proofs.Steps.{syllable-least, syllable-most, step_other}
use Rattle.letters.proofs.FullParts.{parts-other, full-full}
use Rattle.letters.proofs.Chapter3.{precomposed-is, step-mapping}
use Rattle.joining.specs.Joining.{join}
use Rattle.normal.specs.Forms.{Database, applied, decomposed, ordered, nfd, nfc, Equivalent, Primary}
use Rattle.normal.specs.Jamo.{tone_class, composite, jamo}
use Rattle.normal.specs.Repertoire.{Repertoire, letter, whole, Ucd}
use Rattle.joining.proofs.Joins.{parts_join, same_parts, same-join}
use Rattle.normal.proofs.Steps.{two-syllable, Part, letter as part-letter, whole as part-whole, step-parts}
use Rattle.normal.proofs.Agreement.{Agree, AgreePairs, decomposed-agree, nfd-in, nfd-agree, nfc-agree, pairs-agree}
use Rattle.normal.proofs.Jamo.{class-tone, class-below, class-above, composite-step}
use Rattle.normal.proofs.Conjoining.{decomposed-parts, nfd-parts, nfc-join}
use Rattle.normal.proofs.Composites.{jamo-sound, jamo-exact, jamo-inverse}

-- ---- taking apart and composing stay in the repertoire

syllable-in : (c : ℕ) → is_syllable c ≡ true → Repertoire c
syllable-in c h = whole (syllable-least c h) (syllable-most c h)

part_in : (c : ℕ) → Part c → Repertoire c
part_in c (part-letter l h) = letter l h
part_in c (part-whole l h) = whole l h

mapping-alone : (c : ℕ) → precomposed c ≡ false → mapping c ≡ c ∷ []
mapping-alone c h = sym (step-mapping c) ∙ step_other c (sym (precomposed-is c) ∙ h)

mapping-in : (c : ℕ) → Repertoire c → All Repertoire (mapping c)
mapping-in c r =
    rw (← (step-mapping c)) (test (is_syllable c) (λ h. all_map part_in (step-parts c h)) (λ h. rw (step_other c h) (also r All.none)))

composite-in : (l c p : ℕ) → Repertoire l → Repertoire c → composite l c ≡ some p → Repertoire p
composite-in l c p h k e = syllable-in p (two-syllable p l c (composite-step l c p e))

-- ---- every such database agrees with `jamo` there

module _ (ucd : Database) (u : Ucd ucd) where
  class-agrees : (c : ℕ) → Repertoire c → ucd.ccc c ≡ tone_class c
  class-agrees c r =
      test (within 0x302E 0x302F c) (λ h. inside (within-least 0x302E 0x302F c h) (within-most 0x302E 0x302F c h))
      (λ h. ⊎_elim below above (within-not 0x302E 0x302F c h))
    where
      inside : 0x302E ≤ c → c ≤ 0x302F → ucd.ccc c ≡ tone_class c
      inside l h = u.tones c l h ∙ sym (class-tone c l h)

      below : c < 0x302E → ucd.ccc c ≡ tone_class c
      below h = u.starters c r (inl h) ∙ sym (class-below c h)

      above : 0x302F < c → ucd.ccc c ≡ tone_class c
      above h = u.starters c r (inr h) ∙ sym (class-above c h)

  mapping-agrees : (c : ℕ) → Repertoire c → ucd.mapping c ≡ mapping c
  mapping-agrees c r =
      test (precomposed c) (λ h. u.arithmetic c h) (λ h. u.unmapped c r h ∙ sym (mapping-alone c h))

  agrees : Agree ucd jamo Repertoire
  agrees = record { ccc = class-agrees; mapping = mapping-agrees; apart = mapping-in }

  pairs : AgreePairs ucd jamo Repertoire
  pairs = pairs-agree ucd jamo Repertoire agrees u.sound jamo-sound jamo-exact jamo-inverse composite-in u.none-excluded u.no-others

  -- ---- the theorems

  -- FULL PARTS ARE NFD
  pub parts-are-nfd : (t : List ℕ) → All Repertoire t → nfd ucd t ≡ full_parts t
  parts-are-nfd t h = nfd-agree ucd jamo Repertoire agrees u.sound jamo-sound h ∙ nfd-parts t

  -- OF EVERY TEXT, whatever characters it has, the full parts have the text's NFD: a syllable is of
  -- the repertoire, and any other character is its own part
  parts-decomposed : (c : ℕ) → decomposed ucd (parts_of c) ≡ applied ucd ucd.depth c
  parts-decomposed c = test (is_syllable c) apart alone
    where
      of_parts : {x : List ℕ} → All Repertoire x → decomposed ucd x ≡ full_parts x
      of_parts {x} h = decomposed-agree ucd jamo Repertoire agrees u.sound jamo-sound h ∙ decomposed-parts x

      apart : is_syllable c ≡ true → decomposed ucd (parts_of c) ≡ applied ucd ucd.depth c
      apart h =
          let one : All Repertoire (c ∷ []) = also (syllable-in c h) All.none in
          let is : full_parts (c ∷ []) ≡ parts_of c = each-one parts_of c in
          let within-it : All Repertoire (full_parts (c ∷ [])) = rw (nfd-parts (c ∷ [])) at (nfd-in ucd jamo Repertoire agrees one) in
          rw (← is) (of_parts within-it ∙ full-full (c ∷ []) ∙ sym (of_parts one) ∙ each-one (applied ucd ucd.depth) c)

      alone : is_syllable c ≡ false → decomposed ucd (parts_of c) ≡ applied ucd ucd.depth c
      alone h = rw (parts-other 2 c h) (each-one (applied ucd ucd.depth) c)

  pub nfd-of-parts : (x : List ℕ) → nfd ucd (full_parts x) ≡ nfd ucd x
  nfd-of-parts x =
      ap (ordered ucd)
      (each-each (applied ucd ucd.depth) parts_of x
      ∙ each_same (λ c. decomposed ucd (parts_of c)) (applied ucd ucd.depth) parts-decomposed x)

  -- OF EVERY TEXT, whatever characters it has, the joined text is canonically equivalent to it
  pub joined-equivalent : (x : List ℕ) → Equivalent ucd (join x) x
  joined-equivalent x = sym (nfd-of-parts (join x)) ∙ ap (nfd ucd) (parts_join x) ∙ nfd-of-parts x

  -- JOINED TEXT IS NFC
  pub joined-is-nfc : (t : List ℕ) → All Repertoire t → nfc ucd t ≡ join t
  joined-is-nfc t h = nfc-agree ucd jamo Repertoire agrees pairs u.sound jamo-sound h ∙ nfc-join t

  -- CANONICALLY EQUIVALENT EXACTLY WHEN THEY JOIN TO THE SAME TEXT
  pub equivalent-joined : (x y : List ℕ) → All Repertoire x → All Repertoire y → Equivalent ucd x y ↔ (join x ≡ join y)
  equivalent-joined x y h k = (forth, back)
    where
      forth : Equivalent ucd x y → join x ≡ join y
      forth e = same_parts x y (sym (parts-are-nfd x h) ∙ e ∙ parts-are-nfd y k)

      back : join x ≡ join y → Equivalent ucd x y
      back e = parts-are-nfd x h ∙ same-join x y e ∙ sym (parts-are-nfd y k)

-- ---- there is such a database: that of section 3.12 itself

jamo-others : (p : ℕ) → Primary jamo p → All Repertoire (nfd jamo (p ∷ [])) → Repertoire p
jamo-others p h k =
    test (is_syllable p) (λ q. syllable-in p q) (λ q. absurd (h.decomposable (nfd-parts (p ∷ []) ∙ each-one parts_of p ∙ parts-other 2 p q)))

pub jamo-ucd : Ucd jamo
jamo-ucd = record {
  sound = jamo-sound;
  tones = class-tone;
  starters = λ c r h. ⊎_elim (class-below c) (class-above c) h;
  unmapped = λ c r h. mapping-alone c h;
  arithmetic = λ c h. refl;
  none-excluded = λ c r. refl;
  no-others = jamo-others;
}
