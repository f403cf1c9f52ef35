-- Writing a character's line. In order: the name or - (`name-yes`, `name-none`), as naming answers
-- (`name-fits`, `done-named`, `refused-named`), in the part of a buffer from an index on
-- (`put_front`, `wrote-named`, `refused-index`, `wrote-unnamed`); the line, with room for each part
-- (`room-code`, `room-space`, `room-name`, `room-feed`, `wrote-line`).
use mathlib.Core.Path.{◌≡◌, refl, sym, ◌∙◌, ap}
use mathlib.Core.Bool.{true, false}
use mathlib.Core.List.{List, [], ◌∷◌, ◌++◌, append_assoc}
use Prim.Native.Nat.{ℕ, ◌+◌, ◌-◌, ◌≤◌, ◌<◌}
use native.Mathlib.Omega.{arith}
use lib.Dec.{ltb}
use lib.ListN.{length, take, drop, set, take-append-drop}
use lib.Seq.{sets, sets-eq, drop-drop, drop-append-le}
use borrow.Author.Tests.{ltb-true, ltb-false}
use borrow.Rule.Slice.PartMut.{mid_of, post_of, put_mid, mid_len, put_same}
use Rattle.std.specs.Prelude.{Result, Ok, Err}
use Rattle.laws.specs.Writing.{front, Room, Wrote}
use Rattle.laws.proofs.Bools.{test}
use Rattle.laws.proofs.Filling.{Piece, wrote_one, wrote-two, room-one, room-first, room-second}
use Rattle.answers.specs.Verdicts.{Fills}
use Rattle.answers.specs.declared.refusal.Refusal.{Refusal}
use Rattle.answers.specs.Answers.{answered}
use Rattle.answers.proofs.Verdicts.{done-not-refused, refused-room, fills-done, fills-unique}
use Rattle.letters.specs.Syllables.{is_syllable}
use Rattle.names.specs.Names.{name_of}
use Rattle.names.specs.Naming.{no_syllable, Names}
use Rattle.names.proofs.Writing.{names-refused}
use Rattle.names.proofs.Found.{passes-syllable, names-unique, names-whole}
use Rattle.listing.specs.Hex.{hex_of}
use Rattle.listing.specs.Line.{name_or_none, line_of}

-- ---- the name or -

done-is-refused : {k : ℕ} {refusal : Refusal} → ◌≡◌ {A = Result ℕ Refusal} (Ok k) (Err refusal) → ⊥
done-is-refused e = let z : ◌≡◌ {A = ℕ} 0 1 = cc in omega arith

module _ (c : ℕ) where
  pub name-yes : is_syllable c ≡ true → name_or_none c ≡ name_of c
  unfolding name_or_none
  name-yes h = rw h

  pub name-none : is_syllable c ≡ false → name_or_none c ≡ 0x2D ∷ []
  unfolding name_or_none
  name-none h = rw h

-- what naming answers, and leaves
module _ (c : ℕ) {out out' : List ℕ} {r : Result ℕ Refusal} (named : Names c out r out') where
  module _ {k : ℕ} (e : r ≡ Ok k) where
    done : Fills (no_syllable c) (name_of c) (length (name_of c)) out (answered (Ok k)) out'
    done = (rw e at named).fills

    -- a name that is written had room
    pub name-fits : k ≤ length out
    name-fits =
        test (ltb (length out) k)
        (λ t. absurd (done-not-refused (fills-unique done (refused-room (fills-done done).0 (fills-done done).1 (ltb-true (length out) k t))).0))
        (λ t. ltb-false (length out) k t)

    done-named : (k ≡ length (name_or_none c)) × (out' ≡ front (name_or_none c) out)
    done-named = rw (name-yes c (passes-syllable c (fills-done done).0)) ((fills-done done).1, (fills-done done).2)

  -- if there is room, what is refused has no name
  refused-named : length (name_or_none c) ≤ length out → {refusal : Refusal} → r ≡ Err refusal → (name_or_none c ≡ 0x2D ∷ []) × (out' ≡ out)
  refused-named room e =
      test (is_syllable c)
      (λ h. absurd (done-is-refused (sym (names-unique named (names-whole c h (rw (name-yes c h) at room))).0 ∙ e)))
      (λ h. (name-none c h, (names-unique named (names-refused c h)).1))

-- ---- the part of a buffer from an index on is lent, and put back

abbrev after : List ℕ → ℕ → List ℕ
after out at = mid_of at (length out - at) out

abbrev with_after : List ℕ → ℕ → List ℕ → List ℕ
with_after out at part = put_mid at (length out - at) out part

module _ (out : List ℕ) (at : ℕ) where
  after-long : length (after out at) ≡ length out - at
  after-long = mid_len at (length out) out (omega arith)

  -- what fills the front of the part stands in the buffer from the index on
  put_front : (xs : List ℕ) → at + length xs ≤ length out → with_after out at (front xs (after out at)) ≡ sets out at xs
  put_front xs h =
      let fits : length xs ≤ length (after out at) = omega (arith, after-long) in
      let rest : drop (length xs) (after out at) ++ post_of at (length out - at) out ≡ drop (at + length xs) out =
      sym (drop-append-le (length xs) (after out at) (post_of at (length out - at) out) fits)
      ∙ ap (drop (length xs)) (take-append-drop (length out - at) (drop at out)) ∙ drop-drop (length xs) at out in
      rw (sets-eq xs out at h) (simp append_assoc (ap (λ (l : List ℕ). take at out ++ (xs ++ l)) rest))

module _ (c : ℕ) {out part : List ℕ} {at : ℕ} {r : Result ℕ Refusal} (room : Room out at (name_or_none c)) (named : Names c (after out at) r part) where
  room-part : length (name_or_none c) ≤ length (after out at)
  room-part = omega (arith, room.fits, after-long out at)

  pub wrote-named : {k : ℕ} → r ≡ Ok k → Wrote out at (name_or_none c) (at + k) (with_after out at part)
  wrote-named done =
      let h = done-named c named done in
      record { after = ap (λ (n : ℕ). at + n) h.0; holds = rw h.1 (put_front out at (name_or_none c) room.fits) }

  module _ {refusal : Refusal} (refused : r ≡ Err refusal) where
    put_back : with_after out at part ≡ out
    put_back = ap (with_after out at) (refused-named c named room-part refused).1 ∙ put_same at (length out - at) out

    pub refused-index : at < length (with_after out at part)
    refused-index = rw put_back (room-one room (refused-named c named room-part refused).0)

    pub wrote-unnamed : Wrote out at (name_or_none c) (at + 1) (set (with_after out at part) at 0x2D)
    wrote-unnamed = rw put_back (wrote_one (refused-named c named room-part refused).0)

-- ---- the line: the code, a space, the name or -, and a line feed

module _ (c : ℕ) {out : List ℕ} {at : ℕ} (room : Room out at (line_of c)) where
  code-piece : Piece (line_of c) (hex_of c) (0x20 ∷ (name_or_none c ++ (0x0A ∷ [])))
  unfolding line_of
  code-piece = record { eq = refl }

  pub room-code : Room out at (hex_of c)
  room-code = room-first room code-piece

  module _ {after-code : ℕ} {out₁ : List ℕ} (wrote-code : Wrote out at (hex_of c) after-code out₁) where
    space-piece : Piece (0x20 ∷ (name_or_none c ++ (0x0A ∷ []))) (0x20 ∷ []) (name_or_none c ++ (0x0A ∷ []))
    space-piece = record { eq = refl }

    room_after : Room out₁ after-code (0x20 ∷ (name_or_none c ++ (0x0A ∷ [])))
    room_after = room-second room code-piece wrote-code

    pub room-space : after-code < length out₁
    room-space = room-one (room-first room_after space-piece) refl

    name-piece : Piece (name_or_none c ++ (0x0A ∷ [])) (name_or_none c) (0x0A ∷ [])
    name-piece = record { eq = refl }

    room-rest : Room (set out₁ after-code 0x20) (after-code + 1) (name_or_none c ++ (0x0A ∷ []))
    room-rest = room-second room_after space-piece (wrote_one refl)

    pub room-name : Room (set out₁ after-code 0x20) (after-code + 1) (name_or_none c)
    room-name = room-first room-rest name-piece

    module _ {after-name : ℕ} {out₂ : List ℕ}
        (wrote-name : Wrote (set out₁ after-code 0x20) (after-code + 1) (name_or_none c) after-name out₂) where
      pub room-feed : after-name < length out₂
      room-feed = room-one (room-second room-rest name-piece wrote-name) refl

      pub wrote-line : Wrote out at (line_of c) (after-name + 1) (set out₂ after-name 0x0A)
      wrote-line =
          wrote-two code-piece wrote-code (wrote-two space-piece (wrote_one refl) (wrote-two name-piece wrote-name (wrote_one refl)))
