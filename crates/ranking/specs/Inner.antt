-- What the functions that ranking is made of ask and promise. In order: what stands in front of
-- what is left (`front_of`, `text_after`, `next_of`); the rank of what is left, by what is known
-- (`rank_from`); one step (`done_with`, `both_with`, `zero_with`, `Closed`, `Steps`); where characters
-- begin in a text, over any way to read it (`NextBegins`), and how far ranking has come (`Reached`,
-- `Follows`, `Advanced`, `WithinLimit`, `Advances`); bytes that are alike (`Alike`).
use Rattle.std.specs.Prelude.{◌≡◌, Bool, true, false, cond, not, ◌&&◌, ◌⊎◌, List, [], ◌∷◌, ◌++◌, ℕ, ◌+◌, ◌-◌, ◌≤◌, ◌<◌, ltb, eqb, length, get_or, drop}
use Rattle.laws.specs.Lists.{All}
use Rattle.joining.specs.Joining.{join}
use Rattle.utf8.specs.Utf8.{read_text}
use Rattle.ranking.specs.Items.{is_digit, run, digits_value, items_after, items}
use Rattle.ranking.specs.Ranking.{by_value, then_by, rank_items}
use Rattle.std.specs.declared.cmp.Ordering.{Ordering}
use Rattle.ranking.specs.declared.compare.Front.{Front}
use Rattle.ranking.specs.declared.compare.Front.TheVariants.{End, Digit, Other}
use Rattle.ranking.specs.declared.compare.Next.{Next}
use Rattle.ranking.specs.declared.compare.State.{State}
use Rattle.ranking.specs.declared.compare.State.TheVariants.{Apart, Zeros, Number, Done}
use Rattle.ranking.specs.declared.compare.Move.{Move}
use Rattle.ranking.specs.declared.compare.At.{At}

-- ---- what stands in front

abbrev pub front_as : Bool → ℕ → Front
front_as true c = Digit (c - 0x30)
front_as false c = Other c

abbrev pub front_of : List ℕ → Front
front_of [] = End
front_of (c ∷ x) = front_as (is_digit c) c

-- and what is left after it
abbrev pub text_after : List ℕ → List ℕ
text_after [] = []
text_after (c ∷ x) = x

-- a character of so many elements; of none, the end
unfoldable pub next_of : ℕ → ℕ → Next
next_of code size = record { front = cond (eqb size 0) End (front_as (is_digit code) code); size = size }

-- ---- what is known, and the rank of what is left

-- if a number is open, its digits that are left decide before what follows it; and once a digit
-- that is not zero has passed, the longer number is the greater, and of two as long the digits that
-- have passed decide first
abbrev pub rank_from : State → List ℕ → List ℕ → Ordering
rank_from Apart x y = rank_items (items x) (items y)
rank_from Zeros x y = then_by (by_value (digits_value (run x)) (digits_value (run y))) (rank_items (items_after true x) (items_after true y))
rank_from (Number order) x y =
    then_by (by_value (length (run x)) (length (run y)))
    (then_by order
    (then_by (by_value (digits_value (run x)) (digits_value (run y))) (rank_items (items_after true x) (items_after true y))))
rank_from (Done order) x y = order

abbrev pub goes_on_as : State → Bool
goes_on_as Apart = true
goes_on_as Zeros = true
goes_on_as (Number order) = true
goes_on_as (Done order) = false

abbrev pub is_apart_as : State → Bool
is_apart_as Apart = true
is_apart_as Zeros = false
is_apart_as (Number order) = false
is_apart_as (Done order) = false

abbrev pub is_zero_as : Front → Bool
is_zero_as End = false
is_zero_as (Digit d) = eqb d 0
is_zero_as (Other c) = false

-- ---- one step

abbrev pub done_with : Ordering → Move
done_with order = record { state = Done order; first = false; second = false }

abbrev pub both_with : State → Move
both_with state = record { state = state; first = true; second = true }

abbrev pub zero_with : Bool → Bool → Move
zero_with first second = record { state = Zeros; first = first; second = second }

-- no digit stands in front: a number before it has ended
abbrev pub Closed : Front → Type 0
Closed End = Unit {0}
Closed (Digit d) = ⊥
Closed (Other c) = Unit {0}

-- the front passes, and is one
abbrev pub Passed : Front → Bool → Type 0
Passed front passes = (passes ≡ true) × (front ≡ End → ⊥)

-- whatever two texts have these fronts: what is left of them ranks as they did, and something
-- passes unless the answer is found
pub record Steps (s : State) (a b : Front) (r : Move) : Type 0 where
  pub ranks : (x y : List ℕ) → a ≡ front_of x → b ≡ front_of y
      → rank_from s x y ≡ rank_from r.state (cond r.first (text_after x) x) (cond r.second (text_after y) y)
  pub on : goes_on_as r.state ≡ true → Passed a r.first ⊎ Passed b r.second

-- ---- in two texts: `from text at` is the joined text from an index on

abbrev pub joined_from : List ℕ → ℕ → List ℕ
joined_from text at = join (drop at text)

abbrev pub mended_from : List ℕ → ℕ → List ℕ
mended_from text at = join (read_text (drop at text))

-- a character begins at an index, or the text ends there
pub record NextBegins (from : List ℕ → ℕ → List ℕ) (text : List ℕ) (at : ℕ) (r : Next) : Type 0 where
  pub front : r.front ≡ front_of (from text at)
  pub after-it : from text (at + r.size) ≡ text_after (from text at)
  pub inside : at + r.size ≤ length text
  pub more : (r.front ≡ End → ⊥) → 1 ≤ r.size

-- ranking has come to two indices
pub record Reached (first second : List ℕ) (s : At) : Type 0 where
  pub first-inside : s.first ≤ length first
  pub second-inside : s.second ≤ length second
  pub first-limit : length first ≤ 16384
  pub second-limit : length second ≤ 16384

-- what is left ranks as what was left before
pub record Follows (from : List ℕ → ℕ → List ℕ) (first second : List ℕ) (s r : At) : Type 0 where
  pub ranks : rank_from s.state (from first s.first) (from second s.second)
      ≡ rank_from r.state (from first r.first) (from second r.second)
  pub first_on : s.first ≤ r.first
  pub second-on : s.second ≤ r.second
  pub first-inside : r.first ≤ length first
  pub second-inside : r.second ≤ length second

-- and is less, unless the answer is found
pub record Advanced (from : List ℕ → ℕ → List ℕ) (first second : List ℕ) (s r : At) : Type 0 where
  pub follows : Follows from first second s r
  pub more : goes_on_as r.state ≡ true → s.first + s.second < r.first + r.second

-- a step from two characters, wherever these begin
pub record WithinLimit (s : At) (a b : Next) : Type 0 where
  pub first_fits : s.first + a.size ≤ 16384
  pub second_fits : s.second + b.size ≤ 16384

pub record Advances (s : At) (a b : Next) (r : At) : Type 0 where
  pub advanced : (from : List ℕ → ℕ → List ℕ) (first second : List ℕ) → NextBegins from first s.first a → NextBegins from second s.second b
      → Advanced from first second s r

-- ---- bytes that are alike

-- ASCII, and no digit
unfoldable pub is_plain : ℕ → Bool
is_plain b = ltb b 0x80 && not (is_digit b)

-- the same byte, and plain
abbrev pub is_alike : ℕ × ℕ → Bool
is_alike p = eqb p.0 p.1 && is_plain p.0

-- n bytes from the two indices on are the same characters, none a digit
pub record Alike (first second : List ℕ) (i j n : ℕ) : Type 0 where
  pub same : List ℕ
  pub plain : All (λ c. is_digit c ≡ false) same
  pub first-stands : mended_from first i ≡ same ++ mended_from first (i + n)
  pub second-stands : mended_from second j ≡ same ++ mended_from second (j + n)
  pub first-inside : i + n ≤ length first
  pub second-inside : j + n ≤ length second

-- the same byte stands at two indices, and is plain
pub record AlikeAt (first second : List ℕ) (i j : ℕ) : Type 0 where
  pub first-inside : i < length first
  pub second-inside : j < length second
  pub same : get_or first i 0 ≡ get_or second j 0
  pub plain : is_plain (get_or first i 0) ≡ true
