-- Grouping: what 'only neighbours join' says of a text and of what it joins to, with no joiner.
-- Both fall into the same groups, in order, and each group is one code point that stays, or two
-- neighbours that join, or two that join to what joins with a third.
use Rattle.std.specs.Prelude.{◌≡◌, List, [], ◌∷◌, ℕ}
use Rattle.joining.specs.Roles.{pair}

pub data Grouped : List ℕ → List ℕ → Type 0 where
  none : Grouped [] []
  alone : (a : ℕ) {x y : List ℕ} → Grouped x y → Grouped (a ∷ x) (a ∷ y)
  two : (a b : ℕ) {x y : List ℕ} → (pair a b ≡ 0 → ⊥) → Grouped x y → Grouped (a ∷ b ∷ x) (pair a b ∷ y)
  three : (a b c : ℕ) {x y : List ℕ} → (pair a b ≡ 0 → ⊥) → (pair (pair a b) c ≡ 0 → ⊥) → Grouped x y → Grouped (a ∷ b ∷ c ∷ x) (pair (pair a b) c ∷ y)
