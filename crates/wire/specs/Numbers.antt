-- Numbers of 32 bits and units of 16 on the wire, low byte first (docs/CALLS.md, 'The wire form').
use Rattle.std.specs.Prelude.{◌≡◌, refl, List, [], ◌∷◌, ℕ, zero, suc, ◌+◌, ◌*◌, ◌/◌, ◌%◌, length, drop}

-- the element at an index, counted in elements of `size` bytes; `first` gives the one that stands
-- first
unfoldable pub element_at : {A : Type 0} → ℕ → (List ℕ → A) → List ℕ → ℕ → A
element_at size first bytes index = first (drop (size * index) bytes)

-- the first n elements
unfoldable pub elements_of : {A : Type 0} → ℕ → (List ℕ → A) → ℕ → List ℕ → List A
elements_of size first zero bytes = []
elements_of size first (suc n) bytes = first bytes ∷ elements_of size first n (drop size bytes)

-- ---- numbers

-- the four bytes of a number below 2³²
unfoldable pub low_first : ℕ → List ℕ
low_first n = n % 0x100 ∷ n / 0x100 % 0x100 ∷ n / 0x10000 % 0x100 ∷ n / 0x1000000 ∷ []

pub length-number : (n : ℕ) → length (low_first n) ≡ 4
unfolding low_first
length-number n = refl

-- the number that stands first: 0 if the bytes end before it does
unfoldable pub first_number : List ℕ → ℕ
first_number (a ∷ b ∷ c ∷ d ∷ rest) = a + 0x100 * b + 0x10000 * (c + 0x100 * d)
first_number (a ∷ b ∷ c ∷ []) = 0
first_number (a ∷ b ∷ []) = 0
first_number (a ∷ []) = 0
first_number [] = 0

-- the number at an index, counted in numbers
abbrev pub number_at : List ℕ → ℕ → ℕ
number_at bytes index = element_at 4 first_number bytes index

-- the first n numbers
abbrev pub numbers_of : ℕ → List ℕ → List ℕ
numbers_of n bytes = elements_of 4 first_number n bytes

-- ---- units

-- the two bytes of a unit
unfoldable pub unit_bytes : ℕ → List ℕ
unit_bytes n = n % 0x100 ∷ n / 0x100 ∷ []

pub length-unit : (n : ℕ) → length (unit_bytes n) ≡ 2
unfolding unit_bytes
length-unit n = refl

-- the unit that stands first: 0 if the bytes end before it does
unfoldable pub first_unit : List ℕ → ℕ
first_unit (a ∷ b ∷ rest) = a + 0x100 * b
first_unit (a ∷ []) = 0
first_unit [] = 0

-- the unit at an index, counted in units
abbrev pub unit_at : List ℕ → ℕ → ℕ
unit_at bytes index = element_at 2 first_unit bytes index

-- the first n units
abbrev pub units_of_bytes : ℕ → List ℕ → List ℕ
units_of_bytes n bytes = elements_of 2 first_unit n bytes
