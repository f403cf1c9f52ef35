-- What the fast paths find, in any encoding form. In order: an ill-formed subpart is a character by
-- itself (`ill-alone`); a letter of the block 1100–11FF joins with nothing after it if it is no
-- modern initial, or no modern peak follows (`letter-apart`); F of a modern final (`last-yes`,
-- `last-outside`, `last-cases`); A SYLLABLE OF TWO LETTERS AND OF THREE that take k units each
-- (`spelled-pair`, `last-few`, `spelled-triple`). And where two numbers have no bit in common
-- (`bits_none`), for tests of several units in one number.
use mathlib.Core.Path.{◌≡◌, refl, sym, ◌∙◌, ap}
use mathlib.Core.Bool.{false, false≢true}
use mathlib.Core.List.{List}
use Prim.Native.Nat.{ℕ, ◌+◌, ◌-◌, ◌*◌, ◌/◌, ◌%◌, ◌^◌, ◌≤◌, ◌<◌}
use native.Mathlib.Nat.{zero-add, zero-div, zero-mod}
use native.Mathlib.Omega.{arith}
use lib.Bits.{bit_and, and_shr, and_mod, and_mask}
use lib.Pow.{mod-mod-pow}
use lib.ListN.{drop}
use Rattle.laws.specs.Ranges.{within}
use Rattle.laws.proofs.Bools.{test}
use Rattle.laws.proofs.Ranges.{within-yes, within-least, within-most}
use Rattle.letters.proofs.Steps.{syllable-least}
use Rattle.joining.specs.Roles.{pair}
use Rattle.joining.proofs.Roles.{role-between, initial-range, peak-range, final-range, lv-syllable}
use Rattle.joining.proofs.Pairs.{two-letters, three-letters, pair-other, no-fourth}
use Rattle.encodings.specs.Forms.{Form, pieces_in}
use Rattle.encodings.specs.Reading.{good_of, ill_of, taken_in}
use Rattle.mending.specs.Characters.{grown_in, character_in, role_goes_on}
use Rattle.mending.specs.Inner.{last_of}
use Rattle.mending.proofs.Characters.{grown-stops, character-of-one, character-grown, grown-takes, grown-stays}

-- ---- AN ILL-FORMED SUBPART: it reads as FFFD, which joins with nothing

pub ill-alone : (f : Form) (text : List ℕ) (at : ℕ) {n : ℕ} → ill_of n ≡ taken_in f (pieces_in f (drop at text))
    → character_in f (pieces_in f (drop at text)) ≡ ill_of n
ill-alone f text at e =
    sym (character-of-one f text at e (ap role_goes_on (role-between 0xFFFD 0xFFFD 0xFFFD tt (omega arith) (omega arith))))

-- ---- A LETTER ALONE

pub letter-apart : (c b : ℕ) → c ≤ 0x11FF → (c ≤ 0x1112 → within 0x1161 0x1175 b ≡ false) → pair c b ≡ 0
letter-apart c b most after =
    pair-other c b
    (λ i p.
    let k = initial-range c i in
    let q = peak-range b p in
    false≢true (sym (after k.1) ∙ within-yes 0x1161 0x1175 b q.0 q.1))
    (λ v f. omega (arith, syllable-least c (lv-syllable c v), most))

-- ---- F of a modern final

pub last-yes : (c : ℕ) → 0x11A8 ≤ c → c ≤ 0x11C2 → last_of c ≡ c - 0x11A7
unfolding last_of
last-yes c l m = rw (within-yes 0x11A8 0x11C2 c l m)

pub last-outside : (c : ℕ) → within 0x11A8 0x11C2 c ≡ false → last_of c ≡ 0
unfolding last_of
last-outside c e = rw e

pub last-cases : {G : Type 0} (c : ℕ) → (0x11A8 ≤ c → c ≤ 0x11C2 → G) → (last_of c ≡ 0 → G) → G
unfolding last_of
last-cases c some none =
    test (within 0x11A8 0x11C2 c) (λ q. some (within-least 0x11A8 0x11C2 c q) (within-most 0x11A8 0x11C2 c q)) (λ q. none (rw q))

-- ---- A SYLLABLE IN LETTERS

-- an initial and a peak of k units each stand one after the other
module _ (f : Form) (k : ℕ) (text : List ℕ) (at i p : ℕ) (i-few : i < 19) (p-few : p < 21)
    (initial : good_of (0x1100 + i) k ≡ taken_in f (pieces_in f (drop at text)))
    (peak : good_of (0x1161 + p) k ≡ taken_in f (pieces_in f (drop (at + k) text))) where
  pair_is : pair (0x1100 + i) (0x1161 + p) ≡ 0xAC00 + i * 588 + p * 28
  pair_is = two-letters i p i-few p-few

  -- the two joined, and what stands after them
  pair-grown : character_in f (pieces_in f (drop at text))
      ≡ grown_in f (good_of (0xAC00 + i * 588 + p * 28) (k + k)) (pieces_in f (drop (at + k + k) text))
  pair-grown =
      let n : pair (0x1100 + i) (0x1161 + p) ≡ 0 → ⊥ = λ z. omega (arith, pair_is) in
      character-grown f text at initial ∙ grown-takes f (good_of (0x1100 + i) k) text (at + k) peak n ∙ rw pair_is

  -- `last` is F of what stands after them
  module _ {last : ℕ} (found : last ≡ last_of (taken_in f (pieces_in f (drop (at + k + k) text))).code) where
    -- it is no final
    last_apart : (c : ℕ) → last_of c ≡ 0 → pair (0xAC00 + i * 588 + p * 28) c ≡ 0
    last_apart c z =
        pair-other _ c (λ e q. let r = initial-range _ e in omega (arith, r.1))
        (λ e q. let r = final-range c q in omega (arith, z, last-yes c r.0 r.1))

    pub spelled-pair : last ≡ 0 → good_of (0xAC00 + i * 588 + p * 28) (k + k) ≡ character_in f (pieces_in f (drop at text))
    spelled-pair e =
        sym (pair-grown ∙ grown-stays f (good_of (0xAC00 + i * 588 + p * 28) (k + k)) text (at + k + k) refl (last_apart _ (sym found ∙ e)))

    pub last-few : last < 28
    last-few =
        let c = (taken_in f (pieces_in f (drop (at + k + k) text))).code in
        last-cases c (λ l m. omega (arith, found, last-yes c l m)) (λ z. omega (arith, found, z))

    -- it is the final 11A7 + last, of k units too
    pub spelled-triple : (last ≡ 0 → ⊥) → good_of (0x11A7 + last) k ≡ taken_in f (pieces_in f (drop (at + k + k) text))
        → good_of (0xAC00 + i * 588 + p * 28 + last) (k + k + k) ≡ character_in f (pieces_in f (drop at text))
    spelled-triple h final =
        let more : 0 < last = omega (arith, h) in
        let t : pair (0xAC00 + i * 588 + p * 28) (0x11A7 + last) ≡ 0xAC00 + i * 588 + p * 28 + last =
        rw pair_is at (three-letters i p last i-few p-few more last-few) in
        let n : pair (0xAC00 + i * 588 + p * 28) (0x11A7 + last) ≡ 0 → ⊥ = λ z. omega (arith, t) in
        let d : (d : ℕ) → pair (0xAC00 + i * 588 + p * 28 + last) d ≡ 0 =
        λ d. rw (pair_is, t) at (no-fourth (0x1100 + i) (0x1161 + p) (0x11A7 + last) d) in
        sym (pair-grown ∙ grown-takes f (good_of (0xAC00 + i * 588 + p * 28) (k + k)) text (at + k + k) final n
        ∙ rw t (grown-stops f (good_of (0xAC00 + i * 588 + p * 28 + last) (k + k + k)) (pieces_in f (drop (at + k + k + k) text)) d))

-- ---- bits in common

-- w and m have none, and m has the n bits from k on: so w has none of these
pub bits_none : (w m k n : ℕ) → bit_and w m ≡ 0 → m / 2 ^ k % 2 ^ n ≡ 2 ^ n - 1 → w / 2 ^ k % 2 ^ n ≡ 0
bits_none w m k n z e =
    let x = w / 2 ^ k % 2 ^ n in
    let y : bit_and (w / 2 ^ k) (m / 2 ^ k) ≡ 0 = sym (and_shr w m k) ∙ rw (z, zero-div) in
    let q : bit_and x (2 ^ n - 1) ≡ 0 = ap (bit_and x) (sym e) ∙ sym (and_mod (w / 2 ^ k) (m / 2 ^ k) n) ∙ rw (y, zero-mod) in
    let same : x % 2 ^ n ≡ x = rw zero-add at (mod-mod-pow (w / 2 ^ k) 0 n) in
    sym same ∙ sym (and_mask x n) ∙ q
