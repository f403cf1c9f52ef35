-- One turn of the loops over a text, and the loops, in any encoding form. It has: the units between
-- two indices, copied one by one (`Copying` and its laws); a part that passes (`passes_none`,
-- `passes_on`, `passes-full`, `passes-length`); a turn that writes: a character has room and was
-- written (`wrote-placed`, `fits-placed`, `character-fits`, `character-moved`), so with units that
-- pass (`passes-room`, `passes-moved`); a turn that counts (`count_fits`, `count-character`,
-- `passes_count`, `count-passes`); and what the two loops keep (`Writing`, `Tallying`, with their
-- laws) up to the end (`mended-end`).
use mathlib.Core.Path.{◌≡◌, refl, sym, ◌∙◌, ap}
use mathlib.Core.List.{List, [], ◌∷◌, ◌++◌, append_assoc}
use Prim.Native.Nat.{ℕ, ◌+◌, ◌-◌, ◌*◌, ◌≤◌, ◌<◌}
use native.Mathlib.Omega.{arith}
use lib.ListN.{length, get_or, drop, set, length-append, length-drop, drop_of_length-le}
use Rattle.laws.specs.Writing.{fitted, Wrote}
use Rattle.laws.proofs.Lists.{cut-front, at-index, each_nil}
use Rattle.laws.proofs.Filling.{Filling, Counting, wrote_one, wrote_none, wrote-two, wrote-length, counting-none, counting_more, counting-all, filling-none, filling-count, filling-length, filling-more, filling-all}
use Rattle.answers.proofs.Checks.{good-most}
use Rattle.encodings.specs.Pieces.{full}
use Rattle.encodings.specs.Forms.{Form, Encodes, pieces_in, ill_in, code_units}
use Rattle.encodings.specs.Reading.{good_of, ReadFrontsIn}
use Rattle.encodings.specs.declared.answer.Taken.{Taken}
use Rattle.encodings.proofs.Texts.{wrote-all, read-most, ills-most}
use Rattle.mending.specs.Mending.{mended_in}
use Rattle.mending.specs.Inner.{GoesIn, PassesIn, Copies, ReadyIn, MovedIn, FitsIn, PlacedIn, CountReadyIn, CountMovedIn, CountFitsIn, CountPlacedIn}
use Rattle.mending.specs.declared.text.At.{At}
use Rattle.mending.specs.declared.length.Count.{Count}
use Rattle.mending.specs.Characters.{character_in}
use Rattle.mending.proofs.Characters.{Character, character-next}

-- ---- copying

-- the units from `at` to `read` are written from k₀ on
pub record Copying (text : List ℕ) (at read : ℕ) (out₀ : List ℕ) (k₀ : ℕ) (out : List ℕ) (k : ℕ) : Type 0 where
  pub done : List ℕ
  pub stands : drop at text ≡ done ++ drop read text
  pub wrote : Wrote out₀ k₀ done k out

module _ (text : List ℕ) {at : ℕ} {out₀ : List ℕ} {k₀ : ℕ} where
  pub copying-none : Copying text at at out₀ k₀ out₀ k₀
  copying-none = record { done = []; stands = refl; wrote = wrote_none refl }

  module _ {read : ℕ} {out : List ℕ} {k : ℕ} (c : Copying text at read out₀ k₀ out k) where
    pub copying-length : length out ≡ length out₀
    copying-length = wrote-length c.wrote

    -- there is room for the next, as far as there was for all up to `to`
    pub copying-room : {to : ℕ} → at ≤ read → read < to → to ≤ length text → k₀ + (to - at) ≤ length out₀ → k < length out
    copying-room h l t r =
        let n : k ≡ k₀ + (read - at) =
        omega (arith, c.wrote.after, simp length-append at (ap length c.stands), length-drop at text, length-drop read text) in
        omega (arith, n, copying-length)

    pub copying-more : read < length text → Copying text at (read + 1) out₀ k₀ (set out k (get_or text read 0)) (k + 1)
    copying-more h = record {
      done = c.done ++ (get_or text read 0 ∷ []);
      stands = rw append_assoc (c.stands ∙ ap (λ (l : List ℕ). c.done ++ l) (at-index 0 text read h));
      wrote = wrote-two (record { eq = refl }) c.wrote (wrote_one refl);
    }

    copied : Copies text at read out₀ k₀ k out
    copied = record {
      wrote = λ xs e.
          let q : c.done ++ drop read text ≡ xs ++ drop read text = sym c.stands ∙ e in
          let n : length c.done ≡ length xs = omega (arith, simp length-append at (ap length q)) in
          rw (← (cut-front c.done (drop read text) xs (drop read text) q n)) c.wrote;
    }

    pub copying-all : {to : ℕ} → read ≤ to → to ≤ read → Copies text at to out₀ k₀ k out
    copying-all {to} h l =
        let e : to ≡ read = omega arith in
        rw e copied

module _ {f : Form} where
  -- ---- a part that passes: nothing, and one part after the other

  pub passes_none : (text : List ℕ) (at : ℕ) → at ≤ length text → PassesIn f text at at
  passes_none text at h =
      record { same = []; stands = refl; goes = record { mends = refl; ills = omega arith; on = omega arith; inside = h } }

  pub passes_on : {text : List ℕ} {a b c : ℕ} → PassesIn f text a b → PassesIn f text b c → PassesIn f text a c
  passes_on p q = record {
    same = p.same ++ q.same;
    stands = p.stands ∙ rw (q.stands, append_assoc);
    goes = record {
      mends = p.goes.mends ∙ rw (q.goes.mends, append_assoc);
      ills = omega (arith, p.goes.ills, q.goes.ills);
      on = omega (arith, p.goes.on, q.goes.on);
      inside = q.goes.inside;
    };
  }

  -- a well-formed sequence that is a character
  pub passes-full : (enc : Encodes f) (text : List ℕ) (at : ℕ) (u : List ℕ) → drop at text ≡ u ++ drop (at + length u) text → f.encoding.kind u ≡ full
      → at < length text → good_of (f.encoding.code u) (length u) ≡ character_in f (pieces_in f (drop at text)) → PassesIn f text at (at + length u)
  passes-full enc text at u stands whole h e =
      record { same = u; stands = stands; goes = rw (enc.full-units u whole) at (character-next enc text at h e).goes }

  pub passes-length : (text : List ℕ) {at to : ℕ} (p : PassesIn f text at to) → at + length p.same ≡ to
  passes-length text {at} {to} p =
      omega (
        arith,
        simp length-append at (ap length p.stands),
        length-drop at text,
        length-drop to text,
        p.goes.on,
        p.goes.inside,
      )

  goes-length : {text : List ℕ} {at to : ℕ} {xs : List ℕ} {n : ℕ} → GoesIn f text at to xs n
      → length (mended_in f (drop at text)) ≡ length xs + length (mended_in f (drop to text))
  goes-length g = simp length-append at (ap length g.mends)

  -- ---- a turn that writes

  pub wrote-placed : {out : List ℕ} {s : At} {t : Taken} {k : ℕ} {out' : List ℕ} → Wrote out s.written (f.units t.code) k out'
      → PlacedIn f out s t (record { read = s.read + t.size; written = k; ills = s.ills + t.ill }) out'
  wrote-placed w = record { wrote = w; read = refl; ills = refl }

  -- it has room, so all its units were written
  pub fits-placed : {out : List ℕ} {s : At} {t : Taken} → FitsIn f out s t → {k : ℕ} {out' : List ℕ}
      → Wrote out s.written (fitted (code_units f t.code) out s.written) k out'
      → PlacedIn f out s t (record { read = s.read + t.size; written = k; ills = s.ills + t.ill }) out'
  fits-placed {out} {s} {t} h w = wrote-placed (wrote-all f t.code out s.written h.code h.room w)

  module _ {text out : List ℕ} {s : At} where
    pub character-fits : Encodes f → ReadyIn f text out s → {t : Taken} → Character f text s.read t → FitsIn f out s t
    character-fits enc h {t} c = record {
      room = record { fits = omega (arith, h.room, goes-length c.goes) };
      code = good-most t.code c.is-good;
      size = omega (arith, c.goes.inside, h.limit);
      ill = omega (arith, h.ills, h.limit, c.goes.ills, ills-most enc text, read-most enc text);
    }

    pub character-moved : {t : Taken} → Character f text s.read t → {r : At} {out' : List ℕ} → PlacedIn f out s t r out' → MovedIn f text out s r out'
    character-moved {t} c p = record {
      xs = f.units t.code;
      n = t.ill;
      goes = rw p.read c.goes;
      more = omega (arith, p.read, c.more);
      wrote = p.wrote;
      ills = p.ills;
    }

    pub passes-room : ReadyIn f text out s → {to : ℕ} → PassesIn f text s.read to → s.written + (to - s.read) ≤ length out
    passes-room h p = omega (arith, h.room, goes-length p.goes, passes-length text p)

    pub passes-moved : {to : ℕ} → PassesIn f text s.read to → (to ≡ s.read → ⊥) → {k : ℕ} {out' : List ℕ}
        → Copies text s.read to out s.written k out' → MovedIn f text out s (record { read = to; written = k; ills = s.ills }) out'
    passes-moved {to} p n w = record {
      xs = p.same;
      n = 0;
      goes = p.goes;
      more = omega (arith, p.goes.on, n);
      wrote = w.wrote p.same p.stands;
      ills = omega arith;
    }

  -- ---- a turn that counts

  module _ {text : List ℕ} {s : Count} where
    pub count_fits : CountReadyIn f text s → {t : Taken} → Character f text s.read t → CountFitsIn f s t
    count_fits h {t} c = record {
      size = omega (arith, c.goes.inside, h.limit);
      fits = omega (arith, h.fits, goes-length c.goes);
    }

    pub count-character : {t : Taken} → Character f text s.read t → {r : Count} → CountPlacedIn f s t r → CountMovedIn f text s r
    count-character {t} c p =
        record { xs = f.units t.code; n = t.ill; goes = rw p.read c.goes; more = omega (arith, p.read, c.more); counts = p.counts }

    pub passes_count : CountReadyIn f text s → {to : ℕ} → PassesIn f text s.read to → s.length + (to - s.read) ≤ 49152
    passes_count h p = omega (arith, h.fits, goes-length p.goes, passes-length text p)

    pub count-passes : {to : ℕ} → PassesIn f text s.read to → (to ≡ s.read → ⊥)
        → CountMovedIn f text s (record { read = to; length = s.length + (to - s.read) })
    count-passes {to} p n = record {
      xs = p.same;
      n = 0;
      goes = p.goes;
      more = omega (arith, p.goes.on, n);
      counts = omega (arith, passes-length text p);
    }

-- ---- the loops

pub mended-end : (f : Form) (text : List ℕ) (at : ℕ) → length text ≤ at → mended_in f (drop at text) ≡ []
unfolding mended_in
mended-end f text at h = rw (drop_of_length-le text h) (each_nil f.units)

-- what the loop that writes keeps
pub record Writing (f : Form) (text out₀ out : List ℕ) (s : At) : Type 0 where
  pub inside : s.read ≤ length text
  pub filling : Filling (mended_in f text) (mended_in f (drop s.read text)) out₀ out s.written
  pub ills : s.ills + ill_in f (drop s.read text) ≡ ill_in f text

module _ {f : Form} (text : List ℕ) {out₀ : List ℕ} where
  pub writing-none : Writing f text out₀ out₀ (record { read = 0; written = 0; ills = 0 })
  writing-none = record { inside = omega arith; filling = filling-none (mended_in f text) out₀; ills = omega arith }

  module _ {out : List ℕ} {s : At} (w : Writing f text out₀ out s) where
    pub writing-ready : length text ≤ 16384 → length (mended_in f text) ≤ length out₀ → s.read < length text → ReadyIn f text out s
    writing-ready l fit h = record {
      inside = h;
      room = omega (arith, filling-count w.filling, filling-length fit w.filling);
      ills = w.ills;
      limit = l;
    }

    pub writing_more : length (mended_in f text) ≤ length out₀ → {r : At} {out' : List ℕ} → MovedIn f text out s r out' → Writing f text out₀ out' r
    writing_more fit m = record {
      inside = m.goes.inside;
      filling = filling-more fit w.filling (record { eq = m.goes.mends }) m.wrote;
      ills = omega (arith, w.ills, m.ills, m.goes.ills);
    }

    pub writing-all : length text ≤ s.read → ReadFrontsIn f (mended_in f) text out₀ (record { length = s.written; ills = s.ills }) out
    writing-all h = record {
      fronts = filling-all w.filling (mended-end f text s.read h);
      ills = omega (arith, rw (drop_of_length-le text h) at w.ills);
    }

-- and the one that counts
pub record Tallying (f : Form) (text : List ℕ) (s : Count) : Type 0 where
  pub inside : s.read ≤ length text
  pub counting : Counting (mended_in f text) (mended_in f (drop s.read text)) s.length

module _ {f : Form} (text : List ℕ) where
  pub tallying-none : Tallying f text (record { read = 0; length = 0 })
  tallying-none = record { inside = omega arith; counting = counting-none (mended_in f text) }

  module _ {s : Count} (w : Tallying f text s) where
    pub tallying-ready : length text ≤ 16384 → length (mended_in f text) ≤ 3 * length text → s.read < length text → CountReadyIn f text s
    tallying-ready l most h = record { inside = h; fits = omega (arith, w.counting.sum); limit = l }

    pub tallying-more : {r : Count} → CountMovedIn f text s r → Tallying f text r
    tallying-more m = record {
      inside = m.goes.inside;
      counting = rw m.counts (counting_more {xs = m.xs} w.counting (record { eq = m.goes.mends }) refl);
    }

    pub tallying-all : length text ≤ s.read → s.length ≡ length (mended_in f text)
    tallying-all h = counting-all w.counting (mended-end f text s.read h)
