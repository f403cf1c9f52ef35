-- How long a mended text of units is. It HAS NO MORE UNITS THAN THE TEXT (`mended-most`), since
-- U+FFFD and a syllable are one unit each; and it has at least a third of them (`mended-least`),
-- since what is read takes as many units as the text (`read_length`) and at most three letters, of
-- one unit each, join to one (`join-least`).
use mathlib.Core.Path.{◌≡◌, ap}
use mathlib.Core.List.{List, ◌∷◌}
use Prim.Native.Nat.{ℕ, ◌+◌, ◌*◌, ◌≤◌}
use native.Mathlib.Omega.{arith}
use lib.ListN.{length, length-append}
use Rattle.laws.proofs.Lists.{each_nil, each-cons}
use Rattle.letters.proofs.Steps.{syllable-most}
use Rattle.joining.specs.Roles.{pair}
use Rattle.joining.specs.Grouping.{Grouped, none, alone, two, three}
use Rattle.joining.proofs.Roles.{initial-range, peak-range, final-range, lv-syllable}
use Rattle.joining.proofs.Pairs.{by-pair, pair-syllable}
use Rattle.joining.proofs.Joins.{neighbours}
use Rattle.encodings.specs.Pieces.{Piece}
use Rattle.encodings.specs.Readings.{Reading, nothing, formed, broken}
use Rattle.encodings.specs.Damage.{codes}
use Rattle.encodings.specs.Rows.{kind_by}
use Rattle.encodings.proofs.Texts.{reading-in}
use Rattle.utf16.specs.Utf16.{table_d91, value16, units16, utf16, form16, read_units, write_units}
use Rattle.utf16.proofs.Writing.{long-one, units-least}
use Rattle.utf16.proofs.Forms.{full-units, encodes16}
use Rattle.utf16.proofs.Unpaired.{subpart-one}
use Rattle.mending.specs.Mending.{mended_in}
use Rattle.mending.proofs.Bound.{Bounded, each-most}
use Rattle.mending_units.specs.Mending.{mended_units}

-- what two join to is a syllable
joined-one : (a c : ℕ) → (pair a c ≡ 0 → ⊥) → 1 ≡ length (units16 (pair a c))
joined-one a c n = long-one (pair a c) (omega (arith, syllable-most (pair a c) (pair-syllable a c n)))

bounded16 : Bounded form16 units16 1
bounded16 = record {
  of_code = λ c g. omega arith;
  of-ill = omega (arith, long-one 0xFFFD (omega arith));
  of-joined = λ a c n. omega (arith, joined-one a c n, units-least c);
}

pub mended-most : (t : List ℕ) → length (mended_units t) ≤ length t
unfolding mended_in
mended-most t = omega (arith, each-most encodes16 units16 1 bounded16 t)

-- ---- at least a third

-- what a text reads as takes as many units: an unpaired surrogate is one, and so is U+FFFD
reading-length : {t : List ℕ} {P : List (Piece ℕ)} → Reading (kind_by table_d91) t P → length (write_units (codes utf16 P)) ≡ length t
reading-length nothing = ap length (each_nil units16)
reading-length (formed u {P = P} e r) =
    rw (each-cons units16 (value16 u) (codes utf16 P), length-append, length-append, full-units u e) (omega (arith, reading-length r))
reading-length (broken u {t} {P} m r) =
    let one = long-one 0xFFFD (omega arith) in
    rw (each-cons units16 0xFFFD (codes utf16 P), length-append, length-append) (omega (arith, one, subpart-one u t m, reading-length r))

pub read_length : (t : List ℕ) → length (write_units (read_units t)) ≡ length t
read_length t = reading-length (reading-in encodes16 t)

-- one code point in front
units-cons : (c : ℕ) (x : List ℕ) → length (write_units (c ∷ x)) ≡ length (units16 c) + length (write_units x)
units-cons c x = rw (each-cons units16 c x, length-append)

-- what joins, and what it joins to, are below 10000
first_one : (a c : ℕ) → (pair a c ≡ 0 → ⊥) → (1 ≡ length (units16 a)) × (1 ≡ length (units16 c))
first_one a c n =
    by-pair a c
    (λ p q. (long-one a (omega (arith, (initial-range a p).1)), long-one c (omega (arith, (peak-range c q).1))))
    (λ p q. (long-one a (omega (arith, syllable-most a (lv-syllable a p))), long-one c (omega (arith, (final-range c q).1))))
    (λ z. absurd (n z))

join-least : {x y : List ℕ} → Grouped x y → length (write_units x) ≤ 3 * length (write_units y)
join-least none = rw (each_nil units16) (omega arith)
join-least (alone a {x} {y} r) = omega (arith, units-cons a x, units-cons a y, join-least r)
join-least (two a c {x} {y} n r) =
    omega (
      arith,
      units-cons a (c ∷ x),
      units-cons c x,
      units-cons (pair a c) y,
      (first_one a c n).0,
      (first_one a c n).1,
      joined-one a c n,
      join-least r,
    )
join-least (three a c d {x} {y} n m r) =
    omega (
      arith,
      units-cons a (c ∷ d ∷ x),
      units-cons c (d ∷ x),
      units-cons d x,
      units-cons (pair (pair a c) d) y,
      (first_one a c n).0,
      (first_one a c n).1,
      (first_one (pair a c) d m).1,
      joined-one (pair a c) d m,
      join-least r,
    )

pub mended-least : (t : List ℕ) → length t ≤ 3 * length (mended_units t)
unfolding mended_in
mended-least t = omega (arith, read_length t, join-least (neighbours (read_units t)))
