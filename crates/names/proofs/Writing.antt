-- Naming. In order: the length of a name (`name-size`); the prefix and three strings written one
-- after the other (`room-prefix` to `room-last`, `wrote-name`); what naming by I, P and F answers
-- when it is done (`by-done`); the check for a syllable; a syllable's indices (`indices-inside`); how
-- the call returns (`names-refused`, `names-by`).
use mathlib.Core.Path.{◌≡◌, refl, sym}
use mathlib.Core.Bool.{true, false}
use mathlib.Core.List.{List, [], ◌++◌, append-nil}
use Prim.Native.Nat.{ℕ, ◌+◌, ◌≤◌}
use native.Mathlib.Omega.{arith}
use lib.ListN.{length, get_or, length-append}
use Rattle.std.specs.Prelude.{Result, Ok, Err}
use Rattle.laws.specs.Strings.{picked}
use Rattle.laws.specs.Writing.{Room, Wrote, Fronts}
use Rattle.laws.proofs.Filling.{Piece, wrote-two, room-first, room-second, filling-none, filling-last}
use Rattle.answers.specs.Checks.{passes, refuses, no_room}
use Rattle.answers.specs.Answers.{checked}
use Rattle.answers.specs.declared.refusal.Refusal.{Refusal}
use Rattle.answers.specs.declared.refusal.Refusal.TheVariants.{NoSyllable}
use Rattle.answers.proofs.Checks.{no-room-kept}
use Rattle.answers.proofs.Verdicts.{checks-passed, refused-before, filled-whole}
use Rattle.letters.specs.Syllables.{is_syllable}
use Rattle.letters.proofs.Steps.{initial-below, peak-below, final-below}
use Rattle.names.specs.Names.{initials, peaks, finals, prefix, name_by}
use Rattle.names.specs.Naming.{no_syllable, Names}
use Rattle.names.specs.Inner.{indices_of, Inside, NamesBy}
use Rattle.names.specs.declared.strings.Indices.{Indices}

-- a text written from the front on fills it
wrote-front : {text out out' : List ℕ} {r : ℕ} → length text ≤ length out → Wrote out 0 text r out' → Fronts text out r out'
wrote-front {text} {out} h w = filling-last h (filling-none text out) (record { eq = sym (append-nil text) }) w

-- ---- the name of I, P and F: its length, and its strings one after the other

module _ (i p f : ℕ) where
  pub name-size : length (name_by i p f) ≡ 16 + length (get_or initials i []) + length (get_or peaks p []) + length (get_or finals f [])
  unfolding name_by prefix
  name-size = simp length-append (omega arith)

  prefix-piece : Piece (name_by i p f) prefix (picked initials peaks finals i p f)
  unfolding name_by
  prefix-piece = record { eq = refl }

  initial-piece : Piece (picked initials peaks finals i p f) (get_or initials i []) (get_or peaks p [] ++ get_or finals f [])
  initial-piece = record { eq = refl }

  peak-piece : Piece (get_or peaks p [] ++ get_or finals f []) (get_or peaks p []) (get_or finals f [])
  peak-piece = record { eq = refl }

-- ---- the prefix and three strings written one after the other, each with room if the whole has

module _ (i p f : ℕ) {out : List ℕ} (fits : length (name_by i p f) ≤ length out) where
  room_whole : Room out 0 (name_by i p f)
  room_whole = record { fits = omega (arith, fits) }

  pub room-prefix : Room out 0 prefix
  room-prefix = room-first room_whole (prefix-piece i p f)

  module _ {after-prefix : ℕ} {out₁ : List ℕ} (wrote-prefix : Wrote out 0 prefix after-prefix out₁) where
    room-strings : Room out₁ after-prefix (picked initials peaks finals i p f)
    room-strings = room-second room_whole (prefix-piece i p f) wrote-prefix

    pub room-initial : Room out₁ after-prefix (get_or initials i [])
    room-initial = room-first room-strings (initial-piece i p f)

    module _ {after-initial : ℕ} {out₂ : List ℕ} (wrote-initial : Wrote out₁ after-prefix (get_or initials i []) after-initial out₂) where
      room-two : Room out₂ after-initial (get_or peaks p [] ++ get_or finals f [])
      room-two = room-second room-strings (initial-piece i p f) wrote-initial

      pub room-peak : Room out₂ after-initial (get_or peaks p [])
      room-peak = room-first room-two (peak-piece i p f)

      module _ {after-peak : ℕ} {out₃ : List ℕ} (wrote-peak : Wrote out₂ after-initial (get_or peaks p []) after-peak out₃) where
        pub room-last : Room out₃ after-peak (get_or finals f [])
        room-last = room-second room-two (peak-piece i p f) wrote-peak

        pub wrote-name : {r : ℕ} {out₄ : List ℕ} → Wrote out₃ after-peak (get_or finals f []) r out₄ → Wrote out 0 (name_by i p f) r out₄
        wrote-name w = wrote-two (prefix-piece i p f) wrote-prefix (wrote-two (initial-piece i p f) wrote-initial (wrote-two (peak-piece i p f) wrote-peak w))

-- ---- naming by I, P and F, done: v is what the check of the room said

module _ (i p f : ℕ) {out : List ℕ} {v : Result (Unit {0}) Refusal} (found : checked v ≡ no_room (length out) (length (name_by i p f))) where
  pub by-done : v ≡ Ok tt → {r : ℕ} {out' : List ℕ} → Wrote out 0 (name_by i p f) r out' → NamesBy i p f out (Ok r) out'
  by-done e w =
      let room : length (name_by i p f) ≤ length out = no-room-kept _ _ (checks-passed found e) in
      let filled : Fronts (name_by i p f) out _ _ = wrote-front room w in
      record { fills = rw filled.size (filled-whole refl room filled.holds) }

-- ---- 4: no syllable

pub no-syllable-refuses : (code : ℕ) → is_syllable code ≡ false → no_syllable code ≡ refuses 4 0
unfolding no_syllable
no-syllable-refuses code h = simp h

pub no-syllable-passes : (code : ℕ) → is_syllable code ≡ true → no_syllable code ≡ passes
unfolding no_syllable
no-syllable-passes code h = simp h

-- ---- a syllable's indices are inside the tables

pub indices-inside : (code : ℕ) → 0xAC00 ≤ code → code ≤ 0xD7A3 → {indices : Indices} → indices ≡ indices_of code → Inside indices
indices-inside code least most e = rw e (initial-below code least most, peak-below code least most, final-below code least most)

-- ---- the ways in which naming returns

module _ (code : ℕ) {out : List ℕ} where
  pub names-refused : is_syllable code ≡ false → Names code out (Err NoSyllable) out
  names-refused h = record { fills = refused-before (no-syllable-refuses code h) }

  pub names-by : is_syllable code ≡ true → {indices : Indices} → indices ≡ indices_of code → {r : Result ℕ Refusal} {out' : List ℕ}
      → NamesBy indices.initial indices.peak indices.last out r out' → Names code out r out'
  names-by syllable are n = record { fills = rw (no-syllable-passes code syllable) (rw are at n).fills }
