-- Document 02, #101: what a call on units that is done wrote is what the Standard defines, and one
-- boat is one boat, in units and across the two forms.
use mathlib.Core.Path.{◌≡◌, refl, sym, ◌∙◌, ap}
use mathlib.Core.List.{List, [], ◌∷◌, ◌++◌}
use Prim.Native.Nat.{ℕ, ◌≤◌, ◌<◌}
use native.Mathlib.Omega.{arith}
use Rattle.laws.specs.Lists.{All, none, also}
use Rattle.laws.specs.Ranges.{within}
use Rattle.laws.proofs.Lists.{all_left, all_right, all_map, each-alone}
use Rattle.answers.proofs.Checks.{good-low, taken-all}
use Rattle.answers.proofs.Verdicts.{fills-done}
use Rattle.letters.proofs.FullParts.{full-full, full-good}
use Rattle.joining.specs.Joining.{join}
use Rattle.joining.proofs.Roles.{role-between, hard-as}
use Rattle.joining.proofs.Joins.{join-none}
use Rattle.normal.proofs.Conjoining.{nfc-join}
use Rattle.encodings.specs.Pieces.{pieces}
use Rattle.encodings.specs.Readings.{Maximal}
use Rattle.encodings.specs.Rows.{row_in, kind_by}
use Rattle.encodings.proofs.Readings.{reading-broken}
use Rattle.encodings.proofs.Texts.{reading-in, reading-in-unique, read-most, read-write, ill-write, write_read}
use Rattle.utf8.proofs.Round.{encodes8}
use Rattle.utf16.specs.Utf16.{table_d91, units16, read_units, unpaired, write_units}
use Rattle.utf16.proofs.Writing.{units-one, write-least, write-most}
use Rattle.utf16.proofs.Forms.{encodes16}
use Rattle.utf16.proofs.Unpaired as surrogates
use Rattle.mending.specs.Mending.{mended_in}
use Rattle.mending.proofs.Damage.{done-filled}
use Rattle.mending.proofs.Round.{mended-again, mended-ills}
use Rattle.mending.proofs.Same.{same-call}
use Rattle.mending.proofs.Across.{across, through, same-across}
use Rattle.mending_units.specs.Mending.{mended_units}
use Rattle.mending_units.proofs.Bound.{mended-most, mended-least}
use Rattle.demands.specs.Clipboard as demand
use Rattle.demands.proofs.Demand2.{made, made_in}

-- ---- demand 2 for units

pub reading-utf16 : demand.ReadingUtf16
reading-utf16 text out out' c h =
    let m = made_in read_units h in
    record {
      pieces = pieces (kind_by table_d91) text;
      read = reading-in encodes16 text;
      codes-are = λ P r. m.0 ∙ rw (reading-in-unique encodes16 r);
      ills-are = λ P r. m.1 ∙ rw (reading-in-unique encodes16 r);
    }

pub written-reads-back : demand.WrittenReadsBack
written-reads-back text out out' back back' n c h k =
    let good = taken-all text (fills-done h.fills).0 in
    let m = made_in read_units k in (
      m.0 ∙ ap read_units (made write_units h) ∙ read-write encodes16 good,
      m.1 ∙ ap unpaired (made write_units h) ∙ ill-write encodes16 good,
    )

pub read-writes-back : demand.ReadWritesBack
read-writes-back units out out' back back' c n h k z =
    let m = made_in read_units h in
    made write_units k ∙ ap write_units m.0 ∙ write_read encodes16 units (sym m.1 ∙ z)

pub mending-utf16 : demand.MendingUtf16
unfolding mended_in
mending-utf16 text out out' c h P r =
    let m = made_in mended_units h in
    (m.0 ∙ rw (reading-in-unique encodes16 r, nfc-join (read_units text)), m.1 ∙ rw (reading-in-unique encodes16 r))

-- what a call that is done wrote
written_is : {units v : List ℕ} → demand.MendedUnits units v → v ≡ mended_units units
written_is m = m.is ∙ done-filled m.call

pub mended-again-units : demand.MendedAgainUnits
mended-again-units units v out out' c first again =
    let e = written_is first in
    let m = made_in mended_units again in
    (m.0 ∙ ap mended_units e ∙ mended-again encodes16 units ∙ sym e, m.1 ∙ ap unpaired e ∙ mended-ills encodes16 units)

-- ---- unpaired surrogates

-- a maximal subpart of units is one surrogate
one-surrogate : (u t : List ℕ) → Maximal (kind_by table_d91) u t → All (λ a. a < 0x10000) u → (a : ℕ) × (u ≡ a ∷ []) × (0xD800 ≤ a) × (a ≤ 0xDFFF)
one-surrogate [] t m small = absurd (omega (arith, surrogates.subpart-one [] t m))
one-surrogate (a ∷ []) t m (also small none) = let s = surrogates.subpart-surrogate a t m small in (a, refl, s.0, s.1)
one-surrogate (a ∷ b ∷ u) t m small = absurd (omega (arith, surrogates.subpart-one (a ∷ b ∷ u) t m))

pub subpart-is-unpaired : demand.SubpartIsUnpaired
subpart-is-unpaired units before subpart after small r =
    let found = reading-broken before subpart after r in
    one-surrogate subpart found.after found.maximal
    (all_left subpart found.after (all_right found.before (subpart ++ found.after) (rw found.text at small)))

pub unpaired-counted : demand.UnpairedCounted
unpaired-counted units small = surrogates.unpaired-counted small

pub true-marks : demand.TrueMarks
unfolding within row_in
true-marks = (refl, refl)

-- ---- lengths

pub unit-lengths : demand.UnitLengths
unit-lengths text = (read-most encodes16 text, write-least text, write-most text, mended-most text, mended-least text)

pub plain-stays : demand.PlainStays
unfolding mended_in
plain-stays units plain =
    let written : write_units units ≡ units = each-alone units16 (all_map (λ c h. units-one c (omega arith)) plain) in
    let back : read_units units ≡ units =
    ap read_units (sym written) ∙ read-write encodes16 (all_map (λ c h. good-low c (omega arith)) plain) in
    let joined : join units ≡ units =
    join-none (all_map (λ c h. hard-as c (role-between 0x0000 0x10FF c tt (omega arith) (omega arith)) tt) plain) in
    rw (back, joined) written

-- ---- the accident

pub same_units : demand.SameUnits
same_units s t v w m n = rw (m.is, n.is) (same-call encodes16 s t m.call n.call)

pub one-boat-units : demand.OneBoatUnits
one-boat-units name v w good m n =
    (same_units _ _ v w m n).1 (rw (read-write encodes16 good, read-write encodes16 (full-good good)) (sym (full-full name)))

-- ---- between the forms

pub units-then-bytes : demand.UnitsThenBytes
units-then-bytes = across encodes16 encodes8

pub bytes-then-units : demand.BytesThenUnits
bytes-then-units = across encodes8 encodes16

pub through-bytes : demand.ThroughBytes
through-bytes = through encodes16 encodes8

pub one-boat-across : demand.OneBoatAcross
one-boat-across units bytes v w m n = rw (written_is m, n.is ∙ done-filled n.call) (same-across encodes16 encodes8 units bytes)
