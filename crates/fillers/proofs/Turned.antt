-- Laws of the text with its groups turned. In order: where a group begins and where none does
-- (`turned-group`, `turned-copied`); an induction over the text from the left (`turned_by_lem`), and by
-- it: a text with no filler is unchanged, n code points become at most n and at least a quarter of
-- n, and good ones stay good; document 01's case 11; what the two loops ask.
use mathlib.Core.Path.{◌≡◌, refl, sym, ◌∙◌}
use mathlib.Core.Bool.{false}
use mathlib.Core.Option.{Option, none, some}
use mathlib.Core.List.{List, [], ◌∷◌}
use Prim.Native.Nat.{ℕ, ◌+◌, ◌*◌, ◌≤◌, ◌<◌}
use native.Mathlib.Omega.{arith}
use lib.ListN.{length, get_or, drop, length-drop, drop_of_length-le}
use lib.Seq.{drop-drop}
use Rattle.std.specs.Prelude.{Some, None}
use Rattle.std.proofs.lemmas.Option.{none-some, same_Some}
use Rattle.laws.specs.Ranges.{within}
use Rattle.laws.specs.Lists.{All, also}
use Rattle.laws.proofs.Lists.{at-index, all_right}
use Rattle.laws.proofs.Filling.{Piece, Filling, filling-count, filling-length}
use Rattle.answers.specs.Checks.{bad}
use Rattle.answers.proofs.Checks.{good-low}
use Rattle.letters.proofs.Steps.{syllable-most}
use Rattle.fillers.specs.Groups.{as_initial, as_peak, as_final, pairs, group_of, turned_by, turned}
use Rattle.fillers.specs.Inner.{group_at, syllable_in}
use Rattle.fillers.proofs.Fours.{Group, Meant, turns, stays, group-meant, made-syllable}

-- ---- where a group begins, and where none does

module _ (d a b c : ℕ) (x : List ℕ) where
  -- the syllable, and then the search goes on after the group
  pub turned-group : (s : ℕ) → group_of d a b c ≡ some (s ∷ []) → turned (d ∷ a ∷ b ∷ c ∷ x) ≡ s ∷ turned x
  unfolding turned
  turned-group s e = rw e

  -- one code point is copied
  pub turned-copied : group_of d a b c ≡ none → turned (d ∷ a ∷ b ∷ c ∷ x) ≡ d ∷ turned (a ∷ b ∷ c ∷ x)
  unfolding turned
  turned-copied e = rw e

-- ---- from the left: what holds of nothing, after one code point copied and after one group
-- turned, holds of every text

module _ (P : List ℕ → List ℕ → Type 0) (nothing : P [] []) (copied : (d : ℕ) (x y : List ℕ) → P x y → P (d ∷ x) (d ∷ y))
    (group : (d a b c s : ℕ) (x y : List ℕ) → Group d a b c s → P x y → P (d ∷ a ∷ b ∷ c ∷ x) (s ∷ y)) where
  pub turned_by_lem : (x : List ℕ) → P x (turned x)
  unfolding turned
  turned_by_lem [] = nothing
  turned_by_lem (d ∷ []) = copied d [] [] nothing
  turned_by_lem (d ∷ a ∷ []) = copied d _ _ (copied a [] [] nothing)
  turned_by_lem (d ∷ a ∷ b ∷ []) = copied d _ _ (copied a _ _ (copied b [] [] nothing))
  turned_by_lem (d ∷ a ∷ b ∷ c ∷ x) = by (group_of d a b c) (group-meant d a b c) (turned_by_lem x) (turned_by_lem (a ∷ b ∷ c ∷ x))
    where
      by : (o : Option (List ℕ)) → Meant d a b c o → P x (turned x) → P (a ∷ b ∷ c ∷ x) (turned (a ∷ b ∷ c ∷ x))
          → P (d ∷ a ∷ b ∷ c ∷ x) (turned_by o d (turned x) (turned (a ∷ b ∷ c ∷ x)))
      by _ (turns {s} g) after next = group d a b c s x (turned x) g after
      by _ (stays n) after next = copied d _ _ next

-- a text with no filler comes back unchanged
abbrev NoFiller : ℕ → Type 0
NoFiller c = c ≡ 0x3164 → ⊥

pub turned_none : {x : List ℕ} → All (λ c. c ≡ 0x3164 → ⊥) x → turned x ≡ x
turned_none {x} = turned_by_lem (λ x y. All NoFiller x → y ≡ x) (λ p. refl) copied group x
  where
    copied : (d : ℕ) (x y : List ℕ) → (All NoFiller x → y ≡ x) → All NoFiller (d ∷ x) → d ∷ y ≡ d ∷ x
    copied d x y same (also h p) = rw (same p)

    group : (d a b c s : ℕ) (x y : List ℕ) → Group d a b c s → (All NoFiller x → y ≡ x) → All NoFiller (d ∷ a ∷ b ∷ c ∷ x)
        → s ∷ y ≡ d ∷ a ∷ b ∷ c ∷ x
    group d a b c s x y g same (also h p) = absurd (h g.filler)

-- at most n, at least a quarter of n
pub turned-most : (x : List ℕ) → length (turned x) ≤ length x
turned-most = turned_by_lem (λ x y. length y ≤ length x) (omega arith) (λ d x y h. omega arith) (λ d a b c s x y g h. omega arith)

pub turned-least : (x : List ℕ) → length x ≤ 4 * length (turned x)
turned-least = turned_by_lem (λ x y. length x ≤ 4 * length y) (omega arith) (λ d x y h. omega arith) (λ d a b c s x y g h. omega arith)

-- good where the text is
abbrev Good : ℕ → Type 0
Good c = bad c ≡ false

made-good : {d a b c s : ℕ} → Group d a b c s → bad s ≡ false
made-good {s = s} g = good-low s (omega (arith, syllable-most s (made-syllable g)))

pub turned-good : {x : List ℕ} → All (λ c. bad c ≡ false) x → All (λ c. bad c ≡ false) (turned x)
turned-good {x} = turned_by_lem (λ x y. All Good x → All Good y) (λ p. p) copied group x
  where
    copied : (d : ℕ) (x y : List ℕ) → (All Good x → All Good y) → All Good (d ∷ x) → All Good (d ∷ y)
    copied d x y good (also h p) = also h (good p)

    group : (d a b c s : ℕ) (x y : List ℕ) → Group d a b c s → (All Good x → All Good y) → All Good (d ∷ a ∷ b ∷ c ∷ x) → All Good (s ∷ y)
    group d a b c s x y g good p = also (made-good g) (good (all_right (d ∷ a ∷ b ∷ c ∷ []) x p))

-- ---- document 01's case 11, by computation: 3164 3131 314F 3164 is AC00; 3164 3131 314F 3138
-- stays

pub turned-ga : turned (0x3164 ∷ 0x3131 ∷ 0x314F ∷ 0x3164 ∷ []) ≡ 0xAC00 ∷ []
unfolding turned group_of as_initial as_peak as_final pairs within
turned-ga = refl

pub turned-no-final : turned (0x3164 ∷ 0x3131 ∷ 0x314F ∷ 0x3138 ∷ []) ≡ 0x3164 ∷ 0x3131 ∷ 0x314F ∷ 0x3138 ∷ []
unfolding turned group_of as_initial as_peak as_final pairs within
turned-no-final = refl

-- ---- what the two loops ask of what the code found at an index

no-group-turned : (d : ℕ) (x : List ℕ) → None ≡ syllable_in (group_at (d ∷ x)) → turned (d ∷ x) ≡ d ∷ turned x
unfolding turned
no-group-turned d [] e = refl
no-group-turned d (a ∷ []) e = refl
no-group-turned d (a ∷ b ∷ []) e = refl
no-group-turned d (a ∷ b ∷ c ∷ x) e = by (group_of d a b c) (group-meant d a b c) e
  where
    by : (o : Option (List ℕ)) → Meant d a b c o → None ≡ syllable_in o
        → turned_by o d (turned x) (turned (a ∷ b ∷ c ∷ x)) ≡ d ∷ turned (a ∷ b ∷ c ∷ x)
    by _ (turns g) e = absurd (none-some _ e)
    by _ (stays n) e = refl

-- a group found is four code points long, and the search goes on after them
record Begins (s : ℕ) (x : List ℕ) : Type 0 where
  long : 4 ≤ length x
  after : turned x ≡ s ∷ turned (drop 4 x)

group-begins : {s : ℕ} (x : List ℕ) → Some s ≡ syllable_in (group_at x) → Begins s x
unfolding turned
group-begins [] e = absurd (none-some _ (sym e))
group-begins (d ∷ []) e = absurd (none-some _ (sym e))
group-begins (d ∷ a ∷ []) e = absurd (none-some _ (sym e))
group-begins (d ∷ a ∷ b ∷ []) e = absurd (none-some _ (sym e))
group-begins {s} (d ∷ a ∷ b ∷ c ∷ x) e = record { long = omega arith; after = by (group_of d a b c) (group-meant d a b c) e }
  where
    by : (o : Option (List ℕ)) → Meant d a b c o → Some s ≡ syllable_in o → turned_by o d (turned x) (turned (a ∷ b ∷ c ∷ x)) ≡ s ∷ turned x
    by _ (turns g) e = rw (same_Some _ _ e)
    by _ (stays m) e = absurd (none-some _ (sym e))

module _ (text : List ℕ) (read : ℕ) (inside : read < length text) where
  pub copied-piece : None ≡ syllable_in (group_at (drop read text)) → Piece (turned (drop read text)) (get_or text read 0 ∷ []) (turned (drop (read + 1) text))
  copied-piece found =
      let next : drop read text ≡ get_or text read 0 ∷ drop (read + 1) text = at-index 0 text read inside in
      record { eq = rw next (no-group-turned (get_or text read 0) (drop (read + 1) text) (rw next at found)) }

  module _ {s : ℕ} (found : Some s ≡ syllable_in (group_at (drop read text))) where
    pub group-piece : Piece (turned (drop read text)) (s ∷ []) (turned (drop (read + 4) text))
    group-piece = record { eq = (group-begins (drop read text) found).after ∙ rw drop-drop }

    pub group-inside : read + 4 ≤ length text
    group-inside = omega (arith, simp length-drop at (group-begins (drop read text) found).long)

-- what is written is at most as long as the text; and while something is left to be read, there is
-- a place left to write to
pub written-most : (text : List ℕ) {rest out₀ out : List ℕ} {written : ℕ} → Filling (turned text) rest out₀ out written → written ≤ length text
written-most text f = omega (arith, filling-count f, turned-most text)

pub place-left : (text : List ℕ) (read : ℕ) {out₀ out : List ℕ} {written : ℕ} → length (turned text) ≤ length out₀
    → Filling (turned text) (turned (drop read text)) out₀ out written → read < length text → written < length out
place-left text read room f h = omega (arith, filling-count f, filling-length room f, simp length-drop at (turned-least (drop read text)))

pub turned-end : (text : List ℕ) (read : ℕ) → length text ≤ read → turned (drop read text) ≡ []
unfolding turned
turned-end text read h = rw (drop_of_length-le text h)
