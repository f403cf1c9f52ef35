-- Demand 3 of the mended text, in any encoding form: how far damage in the middle reaches, for
-- every beginning, every ending and whatever stands between them, and over a call's contract. The
-- general law stands in crate encodings (proofs/Damage); here it is at the joiner.
--
-- It has: what is not soft joins with nothing before it (`soft-hard`); joining and writing may be
-- cut (`joined-cuttable`); mending keeps its beginning and its ending (`mended-keeps`), where these
-- have their places (`ending_at`, `beginning-at`), and falls apart around ill-formed units
-- (`mended-around`); what a call that is done filled and counted (`done-filled`, `done-ills`,
-- `done-few`); demand 3 over a call (`call-keeps`, `call-around`, `demand-3`).
use mathlib.Core.Path.{◌≡◌, refl, sym, ◌∙◌, ap}
use mathlib.Core.Bool.{false, false≢true}
use mathlib.Core.List.{List, [], ◌∷◌, ◌++◌}
use Prim.Native.Nat.{ℕ, ◌≤◌}
use native.Mathlib.Omega.{arith}
use Rattle.std.specs.Prelude.{Ok}
use Rattle.laws.proofs.Lists.{each_nil, each-cons, each-one, each_append}
use Rattle.answers.proofs.Checks.{units-short}
use Rattle.answers.proofs.Verdicts.{fills-done, fills-front}
use Rattle.joining.specs.Roles.{Hard}
use Rattle.joining.specs.Joining.{join}
use Rattle.joining.proofs.Joins.{join_one, join-cut, mark-around}
use Rattle.encodings.specs.Pieces.{Piece, ill, units_of}
use Rattle.encodings.specs.Damage.{EndsWith, StartsWith, ending, beginning, Kept, Cuttable}
use Rattle.encodings.specs.Places.{EndingPlace, BeginningFound}
use Rattle.encodings.specs.Forms.{Form, Encodes, pieces_in, ill_in, write_in}
use Rattle.encodings.specs.Reading.{ReadsIn}
use Rattle.encodings.specs.declared.answer.Counted.{Counted}
use Rattle.encodings.proofs.Damage.{keeps, around-ill}
use Rattle.encodings.proofs.Places.{ending-place, beginning-place}
use Rattle.encodings.proofs.Texts.{read-most, ills-most}
use Rattle.mending.specs.Mending.{mended_in, soft_as, soft, joined_in, filled_front, SameAroundIn}

-- ---- joining and writing may be cut

pub soft-hard : (c : ℕ) → soft c ≡ false → Hard c
unfolding soft
soft-hard c e = ((λ p. false≢true (sym e ∙ ap soft_as p)), (λ p. false≢true (sym e ∙ ap soft_as p)))

module _ (f : Form) where
  pub joined-cuttable : Cuttable (joined_in f)
  joined-cuttable = record { empty = each_nil f.units; cuts = cuts; alone = alone }
    where
      cuts : (c : ℕ) → soft c ≡ false → (y x : List ℕ) → write_in f (join (x ++ c ∷ y)) ≡ write_in f (join x) ++ write_in f (join (c ∷ y))
      cuts c e y x = let h = soft-hard c e in ap (write_in f) (join-cut c y h.0 h.1 x) ∙ each_append f.units (join x) (join (c ∷ y))

      alone : (x y : List ℕ)
          → write_in f (join (x ++ 0xFFFD ∷ y)) ≡ write_in f (join x) ++ (write_in f (join (0xFFFD ∷ [])) ++ write_in f (join y))
      alone x y =
          ap (write_in f) (mark-around x y) ∙ each_append f.units (join x) (0xFFFD ∷ join y)
          ∙ rw (each-cons f.units 0xFFFD (join y), join_one 0xFFFD, each-one f.units 0xFFFD)

  -- ---- where the places are: the first character of the ending that is no vowel and no final, and
  -- the last such of the beginning

  pub ending_at : (z : List ℕ) → EndingPlace f.encoding (joined_in f) z
  ending_at z = ending-place f.encoding (joined_in f) z

  pub beginning-at : (b : List ℕ) → BeginningFound f.encoding (joined_in f) b
  beginning-at b = beginning-place f.encoding (joined_in f) b

  -- NO SYLLABLE ACROSS ILL-FORMED UNITS: around each ill-formed part, what all before it is mended
  -- to, one U+FFFD, what all after it is mended to
  pub mended-around : (t : List ℕ) (P : List (Piece ℕ)) (u : List ℕ) (Q : List (Piece ℕ)) → pieces_in f t ≡ P ++ ill u ∷ Q
      → (t ≡ units_of P ++ (u ++ units_of Q)) × (mended_in f t ≡ mended_in f (units_of P) ++ (f.units 0xFFFD ++ mended_in f (units_of Q)))
  unfolding mended_in
  mended-around t P u Q e =
      let h = around-ill f.encoding (joined_in f) joined-cuttable t P u Q e in
      let mark = ap (write_in f) (join_one 0xFFFD) ∙ each-one f.units 0xFFFD in
      (h.0, h.1 ∙ ap (λ (m : List ℕ). mended_in f (units_of P) ++ (m ++ mended_in f (units_of Q))) mark)

-- A MENDED TEXT KEEPS ITS BEGINNING AND ITS ENDING, whatever stands between
pub mended-keeps : {f : Form} → Encodes f → (b c z : List ℕ) → Kept f.encoding (joined_in f) b c z
mended-keeps {f} enc b c z = keeps f.encoding (joined_in f) enc.leads (joined-cuttable f) b c z

-- ---- over a call: what it filled, where it is done

module _ {f : Form} {text out out' : List ℕ} {r : Counted} (h : ReadsIn f (mended_in f) text out (Ok r) out') where
  pub done-filled : filled_front r out' ≡ mended_in f text
  done-filled = fills-front h.fills (ap (λ (c : Counted). c.length) (fills-done h.fills).1)

  pub done-ills : r.ills ≡ ill_in f text
  done-ills = ap (λ (c : Counted). c.ills) (fills-done h.fills).1

  pub done-few : Encodes f → r.ills ≤ 16384
  done-few enc = omega (arith, done-ills, ills-most enc text, read-most enc text, units-short text (fills-done h.fills).0)

-- ---- DEMAND 3 OVER A CALL

pub call-around : {f : Form} (t : List ℕ) (P : List (Piece ℕ)) (u : List ℕ) (Q : List (Piece ℕ)) → pieces_in f t ≡ P ++ ill u ∷ Q
    → {out out' : List ℕ} {r : Counted} → ReadsIn f (mended_in f) t out (Ok r) out'
    → filled_front r out' ≡ mended_in f (units_of P) ++ (f.units 0xFFFD ++ mended_in f (units_of Q))
call-around {f} t P u Q e h = done-filled h ∙ (mended-around f t P u Q e).1

module _ {f : Form} (enc : Encodes f) where
  pub call-keeps : (b c z : List ℕ) {out out' : List ℕ} {r : Counted} → ReadsIn f (mended_in f) (b ++ c ++ z) out (Ok r) out'
      → StartsWith (filled_front r out') (mended_in f (beginning f.encoding (joined_in f) b))
      × EndsWith (filled_front r out') (mended_in f (ending f.encoding (joined_in f) z))
  unfolding mended_in
  call-keeps b c z h = let k = mended-keeps enc b c z in rw (done-filled h) (k.starts, k.ends)

  pub demand-3 : (b c d z : List ℕ) {o o' p p' : List ℕ} {r s : Counted} → ReadsIn f (mended_in f) (b ++ c ++ z) o (Ok r) o'
      → ReadsIn f (mended_in f) (b ++ d ++ z) p (Ok s) p' → SameAroundIn f b z (filled_front r o') (filled_front s p')
  demand-3 b c d z v w =
      let h = call-keeps b c z v in
      let k = call-keeps b d z w in
      record {
        start = mended_in f (beginning f.encoding (joined_in f) b);
        finish = mended_in f (ending f.encoding (joined_in f) z);
        start_is = refl;
        finish-is = refl;
        first-starts = h.0;
        second-starts = k.0;
        first_ends = h.1;
        second-ends = k.1;
      }
