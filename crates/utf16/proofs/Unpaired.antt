-- UNPAIRED SURROGATES. What D93b calls a maximal subpart of an ill-formed subsequence is in UTF-16
-- one unit (`subpart-one`), and that is a surrogate (`subpart-surrogate`). And they can be counted
-- with no reading: the ill-formed subparts of a text of units are as many as its high surrogates
-- with no low one after them and its low ones with no high one before them (`unpaired-counted`).
use mathlib.Core.Path.{◌≡◌, refl, ◌∙◌, ap}
use mathlib.Core.Bool.{Bool, true, false, cond, not, ◌||◌}
use mathlib.Core.Logic.{⊎_elim}
use mathlib.Core.Option.{none, some}
use mathlib.Core.List.{List, [], ◌∷◌, ◌++◌}
use Prim.Native.Nat.{ℕ, suc, ◌≤◌, ◌<◌}
use native.Mathlib.Omega.{arith}
use lib.Dec.{ltb}
use lib.ListN.{length}
use borrow.Author.Tests.{ltb-true, ltb-false}
use Rattle.laws.specs.Lists.{All, none as nobody, also}
use Rattle.laws.specs.Machines.{from}
use Rattle.laws.proofs.Bools.{test}
use Rattle.laws.proofs.Ranges.{within-yes, within-below, within-above}
use Rattle.encodings.specs.Pieces.{full, cutter, pieces, ill_count}
use Rattle.encodings.specs.Readings.{Completable, Maximal}
use Rattle.encodings.specs.Rows.{◌to◌, row_in, kind_by}
use Rattle.encodings.proofs.Pieces.{open_full, open-part, open-bad, goes-full, goes-bad}
use Rattle.encodings.proofs.Rows.{row-between, row-full}
use Rattle.utf16.specs.Utf16.{high, low, table_d91, unpaired, starts_low, unpaired_from}
use Rattle.utf16.proofs.Forms.{full-formed, formed-short}

-- ---- AN ILL-FORMED SUBPART IS ONE SURROGATE

-- what begins a well-formed sequence and is no such sequence itself is one unit
completed-one : (u rest : List ℕ) → 1 ≤ length u → kind_by table_d91 (u ++ rest) ≡ full → (kind_by table_d91 u ≡ full → ⊥) → length u ≡ 1
completed-one [] rest more e apart = absurd (omega arith)
completed-one (a ∷ []) rest more e apart = refl
completed-one (a ∷ b ∷ []) [] more e apart = absurd (apart e)
completed-one (a ∷ b ∷ []) (c ∷ rest) more e apart = absurd (omega (arith, formed-short (full-formed (a ∷ b ∷ c ∷ rest) e)))
completed-one (a ∷ b ∷ c ∷ x) rest more e apart =
    absurd (omega (arith, formed-short (full-formed (a ∷ b ∷ c ∷ x ++ rest) e)))

module _ (u t : List ℕ) (m : Maximal (kind_by table_d91) u t) where
  pub subpart-one : length u ≡ 1
  subpart-one =
      ⊎_elim (λ (c : Completable (kind_by table_d91) u). completed-one u c.rest m.some c.completed (λ f. m.unconvertible u t refl f)) (λ e. e)
      m.subpart

-- that unit is a surrogate: any other is well-formed by itself
pub subpart-surrogate : (a : ℕ) (t : List ℕ) → Maximal (kind_by table_d91) (a ∷ []) t → a < 0x10000 → (0xD800 ≤ a) × (a ≤ 0xDFFF)
subpart-surrogate a t m h = (
  test (ltb a 0xD800)
      (λ e. absurd (well (row-full table_d91 a (row-between table_d91 0x0000 0xD7FF tt (omega arith) (omega (arith, ltb-true a 0xD800 e))))))
      (λ e. ltb-false a 0xD800 e),
  test (ltb 0xDFFF a)
      (λ e. absurd (well (row-full table_d91 a (row-between table_d91 0xE000 0xFFFF tt (omega (arith, ltb-true 0xDFFF a e)) (omega arith)))))
      (λ e. ltb-false 0xDFFF a e),
)
  where
    well : kind_by table_d91 (a ∷ []) ≡ full → ⊥
    well f = m.unconvertible (a ∷ []) t refl f

-- ---- a unit is a high surrogate, a low one, or neither

data Sort16 (a : ℕ) : Type 0 where
  is-high : high a ≡ true → low a ≡ false → row_in table_d91 a ≡ some ((0xDC00 to 0xDFFF) ∷ []) → Sort16 a
  is-low : high a ≡ false → low a ≡ true → row_in table_d91 a ≡ none → Sort16 a
  is-neither : high a ≡ false → low a ≡ false → row_in table_d91 a ≡ some [] → Sort16 a

sort16 : (a : ℕ) → a < 0x10000 → Sort16 a
sort16 a h =
    less 0xD800
    (λ l.
    is-neither (within-below 0xD800 0xDBFF a l) (within-below 0xDC00 0xDFFF a (omega arith))
    (row-between table_d91 0x0000 0xD7FF tt (omega arith) (omega arith)))
    (λ k.
    less 0xDC00
    (λ l.
    is-high (within-yes 0xD800 0xDBFF a k (omega arith)) (within-below 0xDC00 0xDFFF a l)
    (row-between table_d91 0xD800 0xDBFF tt k (omega arith)))
    (λ k₂.
    less 0xE000
    (λ l.
    is-low (within-above 0xD800 0xDBFF a (omega arith)) (within-yes 0xDC00 0xDFFF a k₂ (omega arith))
    (row-between table_d91 0xDC00 0xDFFF tt k₂ (omega arith)))
    (λ k₃.
    is-neither (within-above 0xD800 0xDBFF a (omega arith)) (within-above 0xDC00 0xDFFF a (omega arith))
    (row-between table_d91 0xE000 0xFFFF tt k₃ (omega arith)))))
  where
    less : (n : ℕ) → (a < n → Sort16 a) → (n ≤ a → Sort16 a) → Sort16 a
    less n yea nay = test (ltb a n) (λ e. yea (ltb-true a n e)) (λ e. nay (ltb-false a n e))

-- ---- THE COUNT, with nothing open and with a high surrogate h open

-- one more, unless it is closed
abbrev unless : Bool → ℕ → ℕ
unless true n = n
unless false n = suc n

record Counts (t : List ℕ) : Type 0 where
  shut : ill_count (pieces (kind_by table_d91) t) ≡ unpaired_from false t
  opened : (h : ℕ) → row_in table_d91 h ≡ some ((0xDC00 to 0xDFFF) ∷ [])
      → ill_count (from (cutter (kind_by table_d91)) (h ∷ []) t) ≡ unless (starts_low t) (unpaired_from true t)

module _ (a : ℕ) (t : List ℕ) (rest : Counts t) where
  shut-more : Sort16 a → ill_count (pieces (kind_by table_d91) (a ∷ t)) ≡ unpaired_from false (a ∷ t)
  unfolding unpaired_from
  shut-more (is-neither h l r) = rw (open_full (kind_by table_d91) a t (rw r), h, l) rest.shut
  shut-more (is-low h l r) = rw (open-bad (kind_by table_d91) a t (rw r), h, l) (ap suc rest.shut)
  shut-more (is-high h l r) = rw (open-part (kind_by table_d91) a t (rw r), h, l) (by (starts_low t) refl)
    where
      by : (b : Bool) → starts_low t ≡ b
          → ill_count (from (cutter (kind_by table_d91)) (a ∷ []) t) ≡ cond (not b || false) (suc (unpaired_from true t)) (unpaired_from true t)
      by true e = rest.opened a r ∙ rw e
      by false e = rest.opened a r ∙ rw e

  opened-more : Sort16 a → (h : ℕ) → row_in table_d91 h ≡ some ((0xDC00 to 0xDFFF) ∷ [])
      → ill_count (from (cutter (kind_by table_d91)) (h ∷ []) (a ∷ t)) ≡ unless (starts_low (a ∷ t)) (unpaired_from true (a ∷ t))
  unfolding unpaired_from
  opened-more (is-low f l r) h q = rw (goes-full (kind_by table_d91) h [] a t (rw (q, l)), f, l) rest.shut
  opened-more (is-neither f l r) h q =
      rw (goes-bad (kind_by table_d91) h [] a t (rw (q, l)), f, l) (ap suc (shut-more (is-neither f l r) ∙ rw (f, l)))
  opened-more (is-high f l r) h q =
      rw (goes-bad (kind_by table_d91) h [] a t (rw (q, l)), f, l) (ap suc (shut-more (is-high f l r) ∙ rw (f, l)))

counts : {t : List ℕ} → All (λ a. a < 0x10000) t → Counts t
unfolding unpaired_from
counts nobody = record { shut = refl; opened = λ h q. refl }
counts (also {a = a} {x = t} p rest) =
    let u = sort16 a p in
    let c = counts rest in
    record { shut = shut-more a t c u; opened = λ h q. opened-more a t c u h q }

pub unpaired-counted : {t : List ℕ} → All (λ a. a < 0x10000) t → unpaired t ≡ unpaired_from false t
unpaired-counted p = (counts p).shut
