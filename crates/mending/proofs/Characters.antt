-- The first character of a text of units, in any encoding form. It has: a piece in front
-- (`taken-code`, `taken-size`); a character that takes in nothing (`apart-ill`, `apart-end`,
-- `grown-stops`, `apart-after`); taking in one piece, as the code does (`grown-once-stays`,
-- `grown-once-takes`, `grown-once-inside`), and that two are all; the functions' returns
-- (`pieces-after-first`, `taken-inside`, `one_inside`, `character-of-one`, `two-inside`,
-- `character-of-two`, `character-of-three`); a character that takes in what is read after it
-- (`character-grown`, `grown-takes`, `grown-stays`); and THE FIRST CHARACTER IS THE JOINER'S: what
-- is joined from an index on is that character and then what is joined after it (`Character`,
-- `character-next`); so is a well-formed sequence that takes in nothing (`character-full`).
use mathlib.Core.Path.{◌≡◌, refl, sym, ◌∙◌, ap}
use mathlib.Core.Bool.{true, false, false≢true}
use mathlib.Core.List.{List, [], ◌∷◌, ◌++◌, nil≢cons}
use Prim.Native.Nat.{ℕ, ◌+◌, ◌≤◌, ◌<◌}
use native.Mathlib.Nat.{add-zero}
use native.Mathlib.Omega.{arith}
use lib.Dec.{ltb, eqb}
use lib.ListN.{length, drop, drop_of_length-le}
use borrow.Author.Tests.{ltb-true, ltb-false, eq-eqb, ne_eqb, eqb-true, eqb-false}
use Rattle.laws.proofs.Bools.{test}
use Rattle.laws.proofs.Lists.{each-cons}
use Rattle.answers.specs.Checks.{bad}
use Rattle.joining.specs.Roles.{role_of, pair}
use Rattle.joining.specs.declared.role.Role.TheVariants.{Initial, Lv}
use Rattle.joining.specs.Joining.{join}
use Rattle.joining.proofs.Roles.{role-between}
use Rattle.joining.proofs.Pairs.{pair-firm, pair-after, pair-good, no-fourth}
use Rattle.joining.proofs.Joins.{join_one, join_apart, join-joined}
use Rattle.encodings.specs.Pieces.{Piece, good, ill, units, full, ill_count}
use Rattle.encodings.specs.Damage.{codes, code_of}
use Rattle.encodings.specs.Forms.{Form, Encodes, pieces_in, read_in, ill_in, write_in}
use Rattle.encodings.specs.Reading.{good_of, taken_in}
use Rattle.encodings.specs.declared.answer.Taken.{Taken}
use Rattle.encodings.proofs.Taking.{pieces-after, units-inside, Next, taken_next}
use Rattle.encodings.proofs.Reading.{next-good}
use Rattle.encodings.proofs.Texts.{full-piece}
use Rattle.mending.specs.Mending.{mended_in}
use Rattle.mending.specs.Characters.{meets_in, taking_in, grown_once_in, grown_in, after_first, character_in, role_goes_on}
use Rattle.mending.specs.Inner.{GoesIn}

-- ---- what joins with nothing

-- neither an ill-formed part nor the end joins with what stands before it
pub apart-ill : (a : ℕ) → pair a 0xFFFD ≡ 0
apart-ill a = pair-firm a 0xFFFD (role-between 0xFFFD 0xFFFD 0xFFFD tt (omega arith) (omega arith)) tt

pub apart-end : (a : ℕ) → pair a 0 ≡ 0
apart-end a = pair-firm a 0 (role-between 0 0 0 tt (omega arith) (omega arith)) tt

-- nor does what goes on with nothing
pub apart-after : (a : ℕ) → role_goes_on (role_of a) ≡ false → (b : ℕ) → pair a b ≡ 0
apart-after a h b =
    pair-after a b (λ (e : role_of a ≡ Initial). false≢true (sym h ∙ ap role_goes_on e)) (λ (e : role_of a ≡ Lv). false≢true (sym h ∙ ap role_goes_on e))

end-not : role_goes_on (role_of 0) ≡ false
end-not = ap role_goes_on (role-between 0 0 0 tt (omega arith) (omega arith))

module _ (f : Form) where
  -- ---- a piece in front

  pub taken-code : (w : Piece ℕ) (P : List (Piece ℕ)) → (taken_in f (w ∷ P)).code ≡ code_of f.encoding w
  taken-code (good u) P = refl
  taken-code (ill u) P = refl

  pub taken-size : (w : Piece ℕ) (P : List (Piece ℕ)) → (taken_in f (w ∷ P)).size ≡ length (units w)
  taken-size (good u) P = refl
  taken-size (ill u) P = refl

  -- ---- a character that takes in nothing

  pub grown-stops : (t : Taken) (P : List (Piece ℕ)) → ((b : ℕ) → pair t.code b ≡ 0) → grown_in f t P ≡ t
  grown-stops t [] h = refl
  grown-stops t (w ∷ P) h = rw (eq-eqb (meets_in f t w) 0 (h (code_of f.encoding w)))

  -- ---- taking in one piece, as the code does: `next` is what begins after t

  module _ (t : Taken) {next : Taken} where
    pub grown-once-stays : (P : List (Piece ℕ)) → next ≡ taken_in f P → pair t.code next.code ≡ 0 → t ≡ grown_once_in f t P
    grown-once-stays [] e h = refl
    grown-once-stays (w ∷ P) e h =
        let z : meets_in f t w ≡ 0 = ap (pair t.code) (sym (ap (λ (n : Taken). n.code) e ∙ taken-code w P)) ∙ h in
        rw (eq-eqb (meets_in f t w) 0 z)

    pub grown-once-takes : (P : List (Piece ℕ)) → next ≡ taken_in f P → {k : ℕ} → k ≡ pair t.code next.code → (k ≡ 0 → ⊥)
        → record { code = k; size = t.size + next.size; ill = t.ill } ≡ grown_once_in f t P
    grown-once-takes [] e q h = absurd (h (q ∙ ap (λ (n : Taken). pair t.code n.code) e ∙ apart-end t.code))
    grown-once-takes (w ∷ P) e q h =
        let z : pair t.code next.code ≡ meets_in f t w = ap (pair t.code) (ap (λ (n : Taken). n.code) e ∙ taken-code w P) in
        let s : next.size ≡ length (units w) = ap (λ (n : Taken). n.size) e ∙ taken-size w P in
        rw (ne_eqb (meets_in f t w) 0 (λ (n : meets_in f t w ≡ 0). h (q ∙ z ∙ n)), q, z, s)

  -- ---- how far it grows: P is what begins after t, which begins at an index

  module _ (text : List ℕ) (at : ℕ) where
    pieces-after-taking : (t : Taken) (w : Piece ℕ) (P : List (Piece ℕ)) → pieces_in f (drop (at + t.size) text) ≡ w ∷ P
        → pieces_in f (drop (at + (taking_in f t w).size) text) ≡ P
    pieces-after-taking t w P e =
        let s : at + (taking_in f t w).size ≡ at + t.size + length (units w) = omega arith in
        rw s (pieces-after f text (at + t.size) w P e)

    taking-inside : (t : Taken) (w : Piece ℕ) (P : List (Piece ℕ)) → pieces_in f (drop (at + t.size) text) ≡ w ∷ P → at + t.size ≤ length text
        → at + (taking_in f t w).size ≤ length text
    taking-inside t w P e h = omega (arith, units-inside f text (at + t.size) w P e h)

    pub grown-once-inside : (t : Taken) (P : List (Piece ℕ)) → pieces_in f (drop (at + t.size) text) ≡ P → at + t.size ≤ length text
        → at + (grown_once_in f t P).size ≤ length text
    grown-once-inside t [] e h = h
    grown-once-inside t (w ∷ P) e h = test (eqb (meets_in f t w) 0) (λ q. rw q h) (λ q. rw q (taking-inside t w P e h))

    -- with a piece taken in, one more is all
    grown-once-again : (t : Taken) (w : Piece ℕ) (P : List (Piece ℕ)) → grown_once_in f (taking_in f t w) P ≡ grown_in f (taking_in f t w) P
    grown-once-again t w [] = refl
    grown-once-again t w (v ∷ P) =
        test (eqb (meets_in f (taking_in f t w) v) 0) (λ q. rw q)
        (λ q. rw (q, grown-stops (taking_in f (taking_in f t w) v) P (no-fourth t.code (code_of f.encoding w) (code_of f.encoding v))))

    -- so twice is all, from any t
    grown-twice : (t : Taken) (P : List (Piece ℕ)) → pieces_in f (drop (at + t.size) text) ≡ P
        → grown_once_in f (grown_once_in f t P) (pieces_in f (drop (at + (grown_once_in f t P).size) text)) ≡ grown_in f t P
    grown-twice t [] e = rw e
    grown-twice t (w ∷ P) e =
        test (eqb (meets_in f t w) 0) (λ q. rw (q, e, q)) (λ q. rw (q, pieces-after-taking t w P e) (grown-once-again t w P))

    -- and once is, where that goes on with nothing
    grown-once : (t : Taken) (P : List (Piece ℕ)) → pieces_in f (drop (at + t.size) text) ≡ P
        → ((b : ℕ) → pair (grown_once_in f t P).code b ≡ 0) → grown_once_in f t P ≡ grown_in f t P
    grown-once t [] e = λ h. refl
    grown-once t (w ∷ P) e = test (eqb (meets_in f t w) 0) (λ q. rw q (λ h. refl)) (λ q. rw q (λ h. sym (grown-stops (taking_in f t w) P h)))

  -- ---- the functions' returns

  -- a text in which something begins at an index goes on to it
  begins-inside : (text : List ℕ) (at : ℕ) (w : Piece ℕ) (P : List (Piece ℕ)) → pieces_in f (drop at text) ≡ w ∷ P → at ≤ length text
  begins-inside text at w P e =
      test (ltb (length text) at)
      (λ q.
      let h : length text ≤ at = omega (arith, ltb-true (length text) at q) in
      absurd (nil≢cons (rw (drop_of_length-le text h) at e)))
      (λ q. ltb-false (length text) at q)

  from_first : (P : List (Piece ℕ)) {t : Taken} → t ≡ taken_in f P → grown_in f t (after_first P) ≡ character_in f P
  from_first P e = rw e

  module _ (text : List ℕ) (at : ℕ) where
    pieces-after-taken : (P : List (Piece ℕ)) → pieces_in f (drop at text) ≡ P
        → pieces_in f (drop (at + (taken_in f P).size) text) ≡ after_first P
    pieces-after-taken [] e = rw (add-zero at) e
    pieces-after-taken (w ∷ P) e = rw (taken-size w P) (pieces-after f text at w P e)

    pieces-taken-inside : (P : List (Piece ℕ)) → pieces_in f (drop at text) ≡ P → at ≤ length text → at + (taken_in f P).size ≤ length text
    pieces-taken-inside [] e h = omega arith
    pieces-taken-inside (w ∷ P) e h = rw (taken-size w P) (units-inside f text at w P e h)

    pieces-one-inside : (P : List (Piece ℕ)) → pieces_in f (drop at text) ≡ P → role_goes_on (role_of (taken_in f P).code) ≡ true
        → at + (taken_in f P).size ≤ length text
    pieces-one-inside [] e h = absurd (false≢true (sym end-not ∙ h))
    pieces-one-inside (w ∷ P) e h = pieces-taken-inside (w ∷ P) e (begins-inside text at w P e)

    module _ {t : Taken} (taken : t ≡ taken_in f (pieces_in f (drop at text))) where
      pub pieces-after-first : pieces_in f (drop (at + t.size) text) ≡ after_first (pieces_in f (drop at text))
      pieces-after-first = rw taken (pieces-after-taken (pieces_in f (drop at text)) refl)

      pub taken-inside : at ≤ length text → at + t.size ≤ length text
      taken-inside h = rw taken (pieces-taken-inside (pieces_in f (drop at text)) refl h)

      pub one_inside : role_goes_on (role_of t.code) ≡ true → at + t.size ≤ length text
      one_inside h = rw taken (pieces-one-inside (pieces_in f (drop at text)) refl (rw taken at h))

      -- it goes on with nothing
      pub character-of-one : role_goes_on (role_of t.code) ≡ false → t ≡ character_in f (pieces_in f (drop at text))
      character-of-one h = sym (grown-stops t (after_first (pieces_in f (drop at text))) (apart-after t.code h)) ∙ from_first (pieces_in f (drop at text)) taken

      -- s is t with one piece taken in
      module _ {s : Taken} (grew : s ≡ grown_once_in f t (pieces_in f (drop (at + t.size) text))) where
        pub two-inside : role_goes_on (role_of t.code) ≡ true → at + s.size ≤ length text
        two-inside h = rw grew (grown-once-inside text at t (pieces_in f (drop (at + t.size) text)) refl (one_inside h))

        pub character-of-two : role_goes_on (role_of s.code) ≡ false → s ≡ character_in f (pieces_in f (drop at text))
        character-of-two h =
            grew ∙ grown-once text at t (pieces_in f (drop (at + t.size) text)) refl (rw grew at (apart-after s.code h))
            ∙ ap (grown_in f t) pieces-after-first ∙ from_first (pieces_in f (drop at text)) taken

        -- and r with two
        pub character-of-three : {r : Taken} → r ≡ grown_once_in f s (pieces_in f (drop (at + s.size) text)) → r ≡ character_in f (pieces_in f (drop at text))
        character-of-three e =
            e ∙ rw grew (grown-twice text at t (pieces_in f (drop (at + t.size) text)) refl) ∙ ap (grown_in f t) pieces-after-first ∙ from_first
            (pieces_in f (drop at text)) taken

  -- ---- a character that takes in what is read after it

  pub character-grown : (text : List ℕ) (at : ℕ) {t : Taken} → t ≡ taken_in f (pieces_in f (drop at text))
      → character_in f (pieces_in f (drop at text)) ≡ grown_in f t (pieces_in f (drop (at + t.size) text))
  character-grown text at {t} e =
      ap (λ (x : Taken). grown_in f x (after_first (pieces_in f (drop at text)))) (sym e) ∙ ap (grown_in f t) (sym (pieces-after-first text at e))

  module _ (t : Taken) (text : List ℕ) (n : ℕ) {next : Taken} (read : next ≡ taken_in f (pieces_in f (drop n text))) where
    pieces-taken : (P : List (Piece ℕ)) → pieces_in f (drop n text) ≡ P → next ≡ taken_in f P → (pair t.code next.code ≡ 0 → ⊥)
        → grown_in f t P ≡ grown_in f (record {
          code =
              pair t.code next.code;
          size = t.size + next.size;
          ill = t.ill;
        }) (pieces_in f (drop (n + next.size) text))
    pieces-taken [] e q h = absurd (h (ap (λ (x : Taken). pair t.code x.code) q ∙ apart-end t.code))
    pieces-taken (w ∷ P) e q h =
        let k : next.code ≡ code_of f.encoding w = ap (λ (x : Taken). x.code) q ∙ taken-code w P in
        let s : next.size ≡ length (units w) = ap (λ (x : Taken). x.size) q ∙ taken-size w P in
        rw (s, pieces-after f text n w P e, k) (rw (ne_eqb (meets_in f t w) 0 (λ (z : meets_in f t w ≡ 0). h (ap (pair t.code) k ∙ z))))

    pub grown-takes : (pair t.code next.code ≡ 0 → ⊥)
        → grown_in f t (pieces_in f (drop n text))
        ≡ grown_in f (record { code = pair t.code next.code; size = t.size + next.size; ill = t.ill }) (pieces_in f (drop (n + next.size) text))
    grown-takes h = pieces-taken (pieces_in f (drop n text)) refl read h

    pieces-apart : (P : List (Piece ℕ)) → next ≡ taken_in f P → pair t.code next.code ≡ 0 → grown_in f t P ≡ t
    pieces-apart [] q h = refl
    pieces-apart (w ∷ P) q h =
        rw (eq-eqb (meets_in f t w) 0 (ap (pair t.code) (sym (ap (λ (x : Taken). x.code) q ∙ taken-code w P)) ∙ h))

    pub grown-stays : pair t.code next.code ≡ 0 → grown_in f t (pieces_in f (drop n text)) ≡ t
    grown-stays h = pieces-apart (pieces_in f (drop n text)) read h

  -- ---- THE FIRST CHARACTER IS THE JOINER'S

  -- t has grown to r
  record Grows (text : List ℕ) (at : ℕ) (t : Taken) (P : List (Piece ℕ)) (r : Taken) : Type 0 where
    joins : join (t.code ∷ codes f.encoding P) ≡ r.code ∷ join (read_in f (drop (at + r.size) text))
    ills : ill_count P ≡ ill_in f (drop (at + r.size) text)
    same : r.ill ≡ t.ill
    more : t.size ≤ r.size
    inside : at + r.size ≤ length text
    is-good : bad r.code ≡ false

  module _ (text : List ℕ) (at : ℕ) where
    stays : (t : Taken) (P : List (Piece ℕ)) → pieces_in f (drop (at + t.size) text) ≡ P → at + t.size ≤ length text → bad t.code ≡ false
        → join (t.code ∷ codes f.encoding P) ≡ t.code ∷ join (codes f.encoding P) → Grows text at t P t
    stays t P e h g j = record { joins = rw e j; ills = rw e; same = refl; more = omega arith; inside = h; is-good = g }

    takes : (t : Taken) (w : Piece ℕ) (P : List (Piece ℕ)) → (meets_in f t w ≡ 0 → ⊥) → {r : Taken} → Grows text at (taking_in f t w) P r → Grows text at t
        (w ∷ P) r
    takes t (ill u) P n g = absurd (n (apart-ill t.code))
    takes t (good u) P n g = record {
      joins = join-joined t.code (code_of f.encoding (good u)) (codes f.encoding P) n ∙ g.joins;
      ills = g.ills;
      same = g.same;
      more = omega (arith, g.more);
      inside = g.inside;
      is-good = g.is-good;
    }

    grows : (t : Taken) (P : List (Piece ℕ)) → pieces_in f (drop (at + t.size) text) ≡ P → at + t.size ≤ length text → bad t.code ≡ false
        → Grows text at t P (grown_in f t P)
    grows t [] e h g = stays t [] e h g (join_one t.code)
    grows t (w ∷ P) e h g =
        test (eqb (meets_in f t w) 0)
        (λ q. rw q (stays t (w ∷ P) e h g (join_apart t.code (code_of f.encoding w) (codes f.encoding P) (eqb-true (meets_in f t w) 0 q))))
        (λ q.
        let n : meets_in f t w ≡ 0 → ⊥ = eqb-false (meets_in f t w) 0 q in
        rw q (takes t w P n (grows (taking_in f t w) P (pieces-after-taking text at t w P e) (taking-inside text at t w P e h)
        (pair-good t.code (code_of f.encoding w) n))))

  -- r is the character at an index: the joined text is its code point and then the joined text
  -- after it, and the mended text its units and then the mended text after it
  pub record Character (text : List ℕ) (at : ℕ) (r : Taken) : Type 0 where
    pub joins : join (read_in f (drop at text)) ≡ r.code ∷ join (read_in f (drop (at + r.size) text))
    pub goes : GoesIn f text at (at + r.size) (f.units r.code) r.ill
    pub more : 1 ≤ r.size
    pub is-good : bad r.code ≡ false
    pub few : r.ill ≤ 1

  mended-front : (x : List ℕ) (c : ℕ) (y : List ℕ) → join (read_in f x) ≡ c ∷ join (read_in f y) → mended_in f x ≡ f.units c ++ mended_in f y
  unfolding mended_in
  mended-front x c y e = ap (write_in f) e ∙ each-cons f.units c (join (read_in f y))

  module _ (text : List ℕ) (at : ℕ) where
    grows-character : (t : Taken) → Next f text at t → {r : Taken} → Grows text at t (pieces_in f (drop (at + t.size) text)) r → Character text at r
    grows-character t n {r} g =
        let joins : join (read_in f (drop at text)) ≡ r.code ∷ join (read_in f (drop (at + r.size) text)) = ap join n.read ∙ g.joins in
        record {
          joins = joins;
          goes = record {
            mends = mended-front (drop at text) r.code (drop (at + r.size) text) joins;
            ills = omega (arith, n.ills, g.ills, g.same);
            on = omega arith;
            inside = g.inside;
          };
          more = omega (arith, n.more, g.more);
          is-good = g.is-good;
          few = omega (arith, n.few, g.same);
        }

module _ {f : Form} (enc : Encodes f) (text : List ℕ) (at : ℕ) where
  pub character-next : at < length text → {r : Taken} → r ≡ character_in f (pieces_in f (drop at text)) → Character f text at r
  character-next h {r} e =
      let t = taken_in f (pieces_in f (drop at text)) in
      let n : Next f text at t = taken_next f text at h refl in
      let g : Grows f text at t (pieces_in f (drop (at + t.size) text)) (grown_in f t (pieces_in f (drop (at + t.size) text))) =
      grows f text at t (pieces_in f (drop (at + t.size) text)) refl n.inside (next-good n enc) in
      grows-character f text at t n (rw (e, ← (pieces-after-first f text at {t = t} refl)) g)

  -- ---- a well-formed sequence in front, and what stands after it

  module _ (u : List ℕ) (stands : drop at text ≡ u ++ drop (at + length u) text) (whole : f.encoding.kind u ≡ full) where
    piece-front : pieces_in f (drop at text) ≡ good u ∷ pieces_in f (drop (at + length u) text)
    piece-front = ap (pieces_in f) stands ∙ full-piece enc u (drop (at + length u) text) whole

    -- it is a character, if it takes in nothing
    pub character-full : grown_in f (good_of (f.encoding.code u) (length u)) (pieces_in f (drop (at + length u) text))
        ≡ good_of (f.encoding.code u) (length u) → good_of (f.encoding.code u) (length u) ≡ character_in f (pieces_in f (drop at text))
    character-full e = sym e ∙ sym (ap (character_in f) piece-front)
