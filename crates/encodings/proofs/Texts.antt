-- Texts in any encoding form. In order: the units of one code point, in a buffer (`code_fits`,
-- `code-over`, `code-lacks`, `wrote-all`); THE READING IS CHAPTER 3'S, and the only one
-- (`reading-in`, `reading-in-unique`); at most as many code points as units, and at most as many
-- ill-formed subparts as code points (`read-most`, `ills-most`); every one is a scalar value
-- (`read-good`, `read_taken`); a well-formed sequence is a piece wherever it stands (`full-piece`,
-- `units-piece`); and the round trips: WHAT IS WRITTEN READS BACK (`read-write`, `ill-write`), so
-- that two texts with the same units are one (`write-injective`), and WHAT IS READ IS WRITTEN BACK
-- (`write_read`).
use mathlib.Core.Path.{◌≡◌, sym, ◌∙◌, ap}
use mathlib.Core.Bool.{false}
use mathlib.Core.List.{List, [], ◌∷◌, ◌++◌}
use Prim.Native.Nat.{ℕ, ◌+◌, ◌*◌, ◌≤◌, ◌<◌}
use native.Mathlib.Omega.{arith}
use lib.Dec.{leb}
use lib.ListN.{length, length-append}
use borrow.Author.Tests.{le-leb, lt-leb, leb-true, leb-false}
use Rattle.laws.specs.Lists.{All, none, also}
use Rattle.laws.specs.Writing.{Room, fitted, Wrote}
use Rattle.laws.proofs.Bools.{test}
use Rattle.laws.proofs.Filling.{fitted-all, fitted_none, fitted-nil}
use Rattle.laws.proofs.Lists.{each_nil, each-cons, length-each-most}
use Rattle.answers.specs.Checks.{passes, takes_text, takes_units, bad}
use Rattle.answers.proofs.Checks.{good-high, good-taken, units-short}
use Rattle.encodings.specs.Pieces.{full, Piece, good, ill, ill_count}
use Rattle.encodings.specs.Readings.{Reading, nothing, formed, broken}
use Rattle.encodings.specs.Damage.{codes}
use Rattle.encodings.specs.Forms.{Form, Encodes, pieces_in, read_in, ill_in, code_units, write_in}
use Rattle.encodings.proofs.Readings.{reading, reading-pieces}
use Rattle.encodings.proofs.Rows.{full-bad}

-- ---- the units of one code point, in a buffer that has room for them or not

module _ (f : Form) (c : ℕ) where
  code-units : c ≤ 0x10FFFF → code_units f c ≡ f.units c
  unfolding code_units
  code-units h = rw (le-leb c 0x10FFFF h)

  code-none : 0x10FFFF < c → code_units f c ≡ []
  unfolding code_units
  code-none h = rw (lt-leb c 0x10FFFF h)

  module _ (out : List ℕ) (at : ℕ) where
    pub code_fits : c ≤ 0x10FFFF → at + length (f.units c) ≤ length out → fitted (code_units f c) out at ≡ f.units c
    code_fits h k = rw (code-units h) (fitted-all (f.units c) out at k)

    pub code-over : 0x10FFFF < c → fitted (code_units f c) out at ≡ []
    code-over h = rw (code-none h) (fitted-nil out at)

    pub code-lacks : length out < at + length (f.units c) → fitted (code_units f c) out at ≡ []
    code-lacks k =
        test (leb c 0x10FFFF) (λ e. rw (code-units (leb-true c 0x10FFFF e)) (fitted_none (f.units c) out at k))
        (λ e. code-over (leb-false c 0x10FFFF e))

    -- within the limit, and with room for them: what fits is all of them
    pub wrote-all : c ≤ 0x10FFFF → Room out at (f.units c) → {k : ℕ} {out' : List ℕ} → Wrote out at (fitted (code_units f c) out at) k out'
        → Wrote out at (f.units c) k out'
    wrote-all h room w = rw (code_fits h room.fits) at w

module _ {f : Form} (enc : Encodes f) where
  -- ---- THE READING OF A TEXT: its pieces are chapter 3's, and there are no others

  pub reading-in : (t : List ℕ) → Reading f.encoding.kind t (pieces_in f t)
  reading-in t = reading f.encoding.kind enc.coherent t

  pub reading-in-unique : {t : List ℕ} {P : List (Piece ℕ)} → Reading f.encoding.kind t P → P ≡ pieces_in f t
  reading-in-unique r = reading-pieces f.encoding.kind enc.coherent r

  -- ---- how many

  full-some : (u : List ℕ) → f.encoding.kind u ≡ full → 1 ≤ length u
  full-some [] e = absurd (full-bad (sym e ∙ enc.coherent.empty))
  full-some (a ∷ u) e = omega arith

  reading-most : {t : List ℕ} {P : List (Piece ℕ)} → Reading f.encoding.kind t P → length (codes f.encoding P) ≤ length t
  reading-most nothing = omega arith
  reading-most (formed u e r) = simp length-append (omega (arith, full-some u e, reading-most r))
  reading-most (broken u m r) = simp length-append (omega (arith, m.some, reading-most r))

  pub read-most : (t : List ℕ) → length (read_in f t) ≤ length t
  read-most t = reading-most (reading-in t)

  pieces-ills : (P : List (Piece ℕ)) → ill_count P ≤ length (codes f.encoding P)
  pieces-ills [] = omega arith
  pieces-ills (good u ∷ P) = omega (arith, pieces-ills P)
  pieces-ills (ill u ∷ P) = omega (arith, pieces-ills P)

  pub ills-most : (t : List ℕ) → ill_in f t ≤ length (read_in f t)
  ills-most t = pieces-ills (pieces_in f t)

  -- ---- every code point that is read is a scalar value

  codes-good : {t : List ℕ} {P : List (Piece ℕ)} → Reading f.encoding.kind t P → All (λ c. bad c ≡ false) (codes f.encoding P)
  codes-good nothing = none
  codes-good (formed u e r) = also (enc.full-good u e) (codes-good r)
  codes-good (broken u m r) = also (good-high 0xFFFD (omega arith) (omega arith)) (codes-good r)

  pub read-good : (t : List ℕ) → All (λ c. bad c ≡ false) (read_in f t)
  read-good t = codes-good (reading-in t)

  -- so what is read of units that are taken is a text that is taken
  pub read_taken : (t : List ℕ) → takes_units t ≡ passes → takes_text (read_in f t) ≡ passes
  read_taken t e = good-taken (read_in f t) (omega (arith, read-most t, units-short t e)) (read-good t)

  -- ---- A WELL-FORMED SEQUENCE IS A PIECE WHEREVER IT STANDS

  pub full-piece : (u t : List ℕ) → f.encoding.kind u ≡ full → pieces_in f (u ++ t) ≡ good u ∷ pieces_in f t
  full-piece u t e = sym (reading-in-unique (formed u e (reading-in t)))

  -- so are the units of a scalar value
  pub units-piece : (c : ℕ) → bad c ≡ false → (t : List ℕ) → pieces_in f (f.units c ++ t) ≡ good (f.units c) ∷ pieces_in f t
  units-piece c g t = full-piece (f.units c) t (enc.units-full c g)

  -- ---- WHAT IS WRITTEN READS BACK, and nothing of it is ill-formed

  pub read-write : {x : List ℕ} → All (λ c. bad c ≡ false) x → read_in f (write_in f x) ≡ x
  read-write none = rw (each_nil f.units)
  read-write (also {a = c} {x = x} g p) = rw (each-cons f.units c x, units-piece c g (write_in f x), enc.units-code c g, read-write p)

  pub ill-write : {x : List ℕ} → All (λ c. bad c ≡ false) x → ill_in f (write_in f x) ≡ 0
  ill-write none = rw (each_nil f.units)
  ill-write (also {a = c} {x = x} g p) = rw (each-cons f.units c x, units-piece c g (write_in f x)) (ill-write p)

  -- two texts of scalar values with the same units are one
  pub write-injective : {x y : List ℕ} → All (λ c. bad c ≡ false) x → All (λ c. bad c ≡ false) y → write_in f x ≡ write_in f y → x ≡ y
  write-injective p q e = sym (read-write p) ∙ ap (read_in f) e ∙ read-write q

  -- ---- WHAT IS READ IS WRITTEN BACK, where nothing of it is ill-formed

  reading-units : {t : List ℕ} {P : List (Piece ℕ)} → Reading f.encoding.kind t P → ill_count P ≡ 0 → write_in f (codes f.encoding P) ≡ t
  reading-units nothing e = each_nil f.units
  reading-units (formed u {P = P} k r) e =
      rw (each-cons f.units (f.encoding.code u) (codes f.encoding P), enc.full-units u k, reading-units r e)
  reading-units (broken u m r) e = absurd (omega arith)

  pub write_read : (t : List ℕ) → ill_in f t ≡ 0 → write_in f (read_in f t) ≡ t
  write_read t e = reading-units (reading-in t) e

-- ---- at most n units a code point

module _ (f : Form) {n : ℕ} (few : (c : ℕ) → length (f.units c) ≤ n) where
  pub write-most : (x : List ℕ) → length (write_in f x) ≤ n * length x
  write-most x = length-each-most f.units n few x

  -- and n is at most four
  pub write-short : n ≤ 4 → (x : List ℕ) → length (write_in f x) ≤ 4 * length x
  write-short h x = length-each-most f.units 4 (λ c. omega (arith, few c)) x
