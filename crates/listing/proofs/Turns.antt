-- The loops over a text's characters. In order: what is listed from an index on is the character's
-- line and then what is listed after it (`listed_next`), and nothing at the end (`listed-end`);
-- what the loop that writes keeps (`Writing`) and the one that counts (`Tallying`), with the laws
-- of their turns.
use mathlib.Core.Path.{◌≡◌, ◌∙◌, ap}
use mathlib.Core.List.{List, []}
use Prim.Native.Nat.{ℕ, ◌+◌, ◌≤◌}
use native.Mathlib.Omega.{arith}
use lib.ListN.{length, drop, drop_of_length-le}
use Rattle.laws.specs.Lists.{each}
use Rattle.laws.specs.Writing.{Room, Wrote, Fronts}
use Rattle.laws.proofs.Lists.{each_nil, each-cons}
use Rattle.laws.proofs.Filling.{Piece, wrote-length, Filling, filling-none, filling-room, filling-more, filling-all, Counting, counting-none, counting-fits, counting_more, counting-all}
use Rattle.encodings.specs.declared.answer.Taken.{Taken}
use Rattle.utf8.specs.Utf8.{form8}
use Rattle.mending.proofs.Characters.{Character}
use Rattle.listing.specs.Line.{line_of}
use Rattle.listing.specs.Listing.{listed}
use Rattle.listing.proofs.LineBound.{line-most}
use Rattle.listing.proofs.Bound.{listed-most}

module _ (text : List ℕ) (at : ℕ) where
  pub listed_next : {t : Taken} → Character form8 text at t → Piece (listed (drop at text)) (line_of t.code) (listed (drop (at + t.size) text))
  unfolding listed
  listed_next {t} c = record { eq = ap (each line_of) c.joins ∙ each-cons line_of t.code _ }

  pub listed-end : length text ≤ at → listed (drop at text) ≡ []
  unfolding listed
  listed-end h = rw (drop_of_length-le text h) (each_nil line_of)

-- ---- the loop that writes

pub record Writing (text out₀ out : List ℕ) (read written : ℕ) : Type 0 where
  pub inside : read ≤ length text
  pub filling : Filling (listed text) (listed (drop read text)) out₀ out written

module _ (text : List ℕ) {out₀ : List ℕ} where
  pub writing-none : Writing text out₀ out₀ 0 0
  writing-none = record { inside = omega arith; filling = filling-none (listed text) out₀ }

  module _ {out : List ℕ} {read written : ℕ} (w : Writing text out₀ out read written) where
    module _ (fits : length (listed text) ≤ length out₀) {t : Taken} (character : Character form8 text read t) where
      pub line-room : Room out written (line_of t.code)
      line-room = filling-room fits w.filling (listed_next text read character)

      pub writing_more : {k : ℕ} {out' : List ℕ} → Wrote out written (line_of t.code) k out' → Writing text out₀ out' (read + t.size) k
      writing_more wrote = record {
        inside = character.goes.inside;
        filling = filling-more fits w.filling (listed_next text read character) wrote;
      }

    pub writing-all : length text ≤ read → Fronts (listed text) out₀ written out
    writing-all h = filling-all w.filling (listed-end text read h)

-- ---- the loop that counts: `line` is the place that each line is written to

pub record Tallying (text line : List ℕ) (read counted : ℕ) : Type 0 where
  pub inside : read ≤ length text
  pub place : 32 ≡ length line
  pub counting : Counting (listed text) (listed (drop read text)) counted

module _ (text : List ℕ) {line : List ℕ} where
  pub tallying-none : 32 ≡ length line → Tallying text line 0 0
  tallying-none e = record { inside = omega arith; place = e; counting = counting-none (listed text) }

  module _ {read counted : ℕ} (w : Tallying text line read counted) where
    pub place-room : (c : ℕ) → Room line 0 (line_of c)
    place-room c = record { fits = omega (arith, w.place, line-most c) }

    module _ {t : Taken} (character : Character form8 text read t) {k : ℕ} {line' : List ℕ} (wrote : Wrote line 0 (line_of t.code) k line') where
      length-is : k ≡ length (line_of t.code)
      length-is = omega (arith, wrote.after)

      pub tallying-fits : length text ≤ 16384 → counted + k ≤ 163840
      tallying-fits l =
          omega (arith, counting-fits w.counting (listed_next text read character) length-is, listed-most text)

      pub tallying-more : Tallying text line' (read + t.size) (counted + k)
      tallying-more = record {
        inside = character.goes.inside;
        place = omega (arith, w.place, wrote-length wrote);
        counting = counting_more w.counting (listed_next text read character) length-is;
      }

    pub tallying-all : length text ≤ read → counted ≡ length (listed text)
    tallying-all h = counting-all w.counting (listed-end text read h)
