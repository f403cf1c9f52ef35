-- How far ranking has come in two texts. In order: a character as a front (`next-end`,
-- `next-digit`, `next-below`, `next-above`); where characters begin, over any way to read a text
-- (`begins-end`, `begins-front`), in a text of code points (`code-end`, `code-alone`, `code-two`,
-- `code-three`) and of bytes (`byte-begins`); one step (`first-adds`, `second-adds`, `advances`,
-- `fits`, `follows-none`, `follows_on`, `advanced-on`, `follows-reached`); the loops (`measure_of`,
-- `start`, `less`, `rank-found`, `rank-bytes-found`); bytes that are alike (`plain-below` and so
-- on, `alike-none`, `alike-more`, `alike-common`, `alike-follows`).
use mathlib.Core.Path.{◌≡◌, refl, sym, ◌∙◌, ap}
use mathlib.Core.Bool.{Bool, true, false, cond, not, false≢true}
use mathlib.Core.Logic.{◌⊎◌, inl, inr}
use mathlib.Core.List.{List, [], ◌∷◌, ◌++◌, append_assoc}
use Prim.Native.Nat.{ℕ, zero, suc, ◌+◌, ◌-◌, ◌≤◌, ◌<◌}
use native.Mathlib.Nat.{add-zero}
use native.Mathlib.Numerals.{add-one}
use native.Mathlib.Omega.{arith}
use lib.Dec.{ltb, eqb}
use lib.ListN.{length, get_or, take, drop, length-take, length-drop, drop_of_length-le}
use lib.Seq.{get_or-drop}
use borrow.Author.Tests.{ne_eqb, eqb-true, lt-ltb, le-ltb, ltb-true, ltb-false}
use Rattle.std.specs.List.{prefix_len, take_while, zip}
use Rattle.std.proofs.lemmas.Slice.{between_to_end}
use Rattle.laws.specs.Lists.{All, none, also}
use Rattle.laws.proofs.Bools.{test, and_left, and_right}
use Rattle.laws.proofs.Lists.{at-index, at-index-to, all_append}
use Rattle.joining.specs.Roles.{pair}
use Rattle.joining.specs.Joining.{join}
use Rattle.joining.proofs.Roles.{role-between}
use Rattle.joining.proofs.Pairs.{pair-none, no-fourth}
use Rattle.joining.proofs.Joins.{join_one, join_apart, join-joined, join-closed}
use Rattle.encodings.specs.Pieces.{good, pieces}
use Rattle.encodings.specs.Reading.{good_of}
use Rattle.encodings.specs.declared.answer.Taken.{Taken}
use Rattle.encodings.proofs.Rows.{row-between, ends, full_by}
use Rattle.encodings.proofs.Taking.{test-true}
use borrow.Author.Tests.{not-true}
use Rattle.encodings.proofs.Texts.{full-piece}
use Rattle.utf8.specs.Table37.{table37, kind_of}
use Rattle.utf8.specs.Utf8.{form8}
use Rattle.utf8.proofs.Round.{encodes8}
use Rattle.mending.specs.Characters.{character_from}
use Rattle.mending.proofs.Characters.{apart-end, grown-stops, Character, character-next}
use Rattle.ranking.specs.Items.{is_digit}
use Rattle.ranking.specs.Ranking.{rank, rank_bytes}
use Rattle.ranking.specs.Inner.{text_after, next_of, rank_from, goes_on_as, is_apart_as, Passed, Steps, joined_from, mended_from, NextBegins, Reached, Follows, Advanced, WithinLimit, Advances, is_plain, is_alike, Alike, AlikeAt}
use Rattle.std.specs.declared.cmp.Ordering.{Ordering}
use Rattle.ranking.specs.declared.compare.Front.TheVariants.{End, Digit, Other}
use Rattle.ranking.specs.declared.compare.Next.{Next}
use Rattle.ranking.specs.declared.compare.State.{State}
use Rattle.ranking.specs.declared.compare.State.TheVariants.{Apart, Zeros, Number, Done}
use Rattle.ranking.specs.declared.compare.Move.{Move}
use Rattle.ranking.specs.declared.compare.At.{At}
use Rattle.ranking.proofs.Orders.{by-value-self}
use Rattle.ranking.proofs.Items.{digit-yes, digit-below, digit-above, items-other}

-- ---- a character as a front

module _ (code size : ℕ) where
  pub next-end : size ≡ 0 → record { front = End; size = 0 } ≡ next_of code size
  unfolding next_of
  next-end e = rw e

  pub next-digit : (size ≡ 0 → ⊥) → 0x30 ≤ code → code < 0x3A → record { front = Digit (code - 0x30); size = size } ≡ next_of code size
  unfolding next_of
  next-digit n h k = rw (ne_eqb size 0 n, digit-yes code h (omega arith))

  pub next-below : (size ≡ 0 → ⊥) → code < 0x30 → record { front = Other code; size = size } ≡ next_of code size
  unfolding next_of
  next-below n h = rw (ne_eqb size 0 n, digit-below code h)

  pub next-above : (size ≡ 0 → ⊥) → 0x3A ≤ code → record { front = Other code; size = size } ≡ next_of code size
  unfolding next_of
  next-above n h = rw (ne_eqb size 0 n, digit-above code h)

-- ---- where characters begin

module _ (from : List ℕ → ℕ → List ℕ) (text : List ℕ) (at : ℕ) where
  pub begins-end : (code : ℕ) → from text at ≡ [] → at ≤ length text → NextBegins from text at (next_of code 0)
  unfolding next_of
  begins-end code e h =
      record { front = rw e; after-it = rw (add-zero at, e); inside = omega arith; more = λ n. absurd (n refl) }

  pub begins-front : (code size : ℕ) → from text at ≡ code ∷ from text (at + size) → 1 ≤ size → at + size ≤ length text
      → NextBegins from text at (next_of code size)
  unfolding next_of
  begins-front code size e m h =
      let n : eqb size 0 ≡ false = ne_eqb size 0 (λ z. omega arith) in
      record { front = rw (n, e); after-it = sym (ap text_after e); inside = h; more = λ q. m }

pub begins-as : {from : List ℕ → ℕ → List ℕ} {text : List ℕ} {at : ℕ} {r s : Next} → r ≡ s → NextBegins from text at s → NextBegins from text at r
begins-as e b = rw e b

-- in a text of code points

join-alone : (a : ℕ) (x : List ℕ) → pair a (get_or x 0 0) ≡ 0 → join (a ∷ x) ≡ a ∷ join x
join-alone a [] e = join_one a
join-alone a (b ∷ x) e = join_apart a b x e

join_more : (a : ℕ) (x : List ℕ) → (pair a (get_or x 0 0) ≡ 0 → ⊥) → join (a ∷ x) ≡ join (pair a (get_or x 0 0) ∷ text_after x)
join_more a [] n = absurd (n (apart-end a))
join_more a (b ∷ x) n = join-joined a b x n

module _ (text : List ℕ) where
  front-code : (at : ℕ) → get_or (drop at text) 0 0 ≡ get_or text at 0
  front-code at = get_or-drop at text 0 0 ∙ rw add-zero

  -- what joins with the code point after it has one
  pub joins-inside : (a at : ℕ) → (pair a (get_or text at 0) ≡ 0 → ⊥) → at < length text
  joins-inside a at n =
      test (ltb at (length text)) (λ q. ltb-true at (length text) q)
      (λ q.
      let h : length text ≤ at = ltb-false at (length text) q in
      let z : get_or text at 0 ≡ 0 = sym (front-code at) ∙ rw (drop_of_length-le text h) in
      absurd (n (ap (pair a) z ∙ apart-end a)))

module _ (text : List ℕ) (at : ℕ) where
  pub code-end : length text ≤ at → at ≤ length text → {r : Next} → r ≡ next_of 0 0 → NextBegins joined_from text at r
  code-end h k e = begins-as e (begins-end joined_from text at 0 (rw (drop_of_length-le text h)) k)

  -- it and b, the next, join to two, or two is 0
  module _ (inside : at < length text) {two b : ℕ} (second : b ≡ get_or text (at + 1) 0) (joined : two ≡ pair (get_or text at 0) b) where
    first-pair : two ≡ pair (get_or text at 0) (get_or (drop (at + 1) text) 0 0)
    first-pair = joined ∙ ap (pair (get_or text at 0)) (second ∙ sym (front-code text (at + 1)))

    pub code-alone : two ≡ 0 → {r : Next} → r ≡ next_of (get_or text at 0) 1 → NextBegins joined_from text at r
    code-alone z e =
        begins-as e (begins-front joined_from text at (get_or text at 0) 1
        (ap join (at-index 0 text at inside) ∙ join-alone (get_or text at 0) (drop (at + 1) text) (sym first-pair ∙ z))
        (omega arith) (omega arith))

    pub second-inside : (two ≡ 0 → ⊥) → at + 1 < length text
    second-inside n = joins-inside text (get_or text at 0) (at + 1) (λ z. n (joined ∙ ap (pair (get_or text at 0)) second ∙ z))

    two-front : (two ≡ 0 → ⊥) → join (drop at text) ≡ join (two ∷ drop (at + 2) text)
    two-front n =
        let next : drop (at + 1) text ≡ get_or text (at + 1) 0 ∷ drop (at + 2) text =
        at-index-to 0 text (at + 1) (at + 2) (omega arith) (second-inside n) in
        ap join (at-index 0 text at inside) ∙ join_more (get_or text at 0) (drop (at + 1) text) (λ z. n (first-pair ∙ z))
        ∙ rw (← first-pair, next)

    -- and so do two and c
    module _ (some : two ≡ 0 → ⊥) {three c : ℕ} (third : c ≡ get_or text (at + 2) 0) (joined-three : three ≡ pair two c) where
      second-pair : three ≡ pair two (get_or (drop (at + 2) text) 0 0)
      second-pair = joined-three ∙ ap (pair two) (third ∙ sym (front-code text (at + 2)))

      pub code-two : three ≡ 0 → {r : Next} → r ≡ next_of two 2 → NextBegins joined_from text at r
      code-two z e =
          begins-as e (begins-front joined_from text at two 2
          (two-front some ∙ join-alone two (drop (at + 2) text) (sym second-pair ∙ z)) (omega arith) (omega (arith, second-inside some)))

      pub code-three : (three ≡ 0 → ⊥) → {r : Next} → r ≡ next_of three 3 → NextBegins joined_from text at r
      code-three n e =
          let inside-three : at + 2 < length text = joins-inside text two (at + 2) (λ z. n (joined-three ∙ ap (pair two) third ∙ z)) in
          let next : drop (at + 2) text ≡ get_or text (at + 2) 0 ∷ drop (at + 3) text =
          at-index-to 0 text (at + 2) (at + 3) (omega arith) inside-three in
          let closed : (d : ℕ) → pair three d ≡ 0 =
          λ d. ap (λ (k : ℕ). pair k d) (joined-three ∙ ap (λ (k : ℕ). pair k c) joined) ∙ no-fourth (get_or text at 0) b c d in
          begins-as e (begins-front joined_from text at three 3
          (two-front some ∙ join_more two (drop (at + 2) text) (λ z. n (second-pair ∙ z)) ∙ rw (← second-pair, next)
          (join-closed three (drop (at + 3) text) closed)) (omega arith) (omega arith))

-- in a text of bytes

byte-end : (text : List ℕ) (at : ℕ) → length text ≤ at → at ≤ length text → {t : Taken} → t ≡ character_from (pieces kind_of (drop at text))
    → {r : Next} → r ≡ next_of t.code t.size → NextBegins mended_from text at r
byte-end text at h k e f =
    let d : drop at text ≡ [] = drop_of_length-le text h in
    begins-as f (rw (e, d) (begins-end mended_from text at 0 (rw d) k))

byte_inside : (text : List ℕ) (at : ℕ) → at < length text → {t : Taken} → t ≡ character_from (pieces kind_of (drop at text)) → {r : Next}
    → r ≡ next_of t.code t.size → NextBegins mended_from text at r
byte_inside text at h {t} e f =
    let c : Character form8 text at t = character-next encodes8 text at h e in
    begins-as f (begins-front mended_from text at t.code t.size c.joins c.more c.goes.inside)

pub byte-begins : (text : List ℕ) (at : ℕ) → at ≤ length text → {t : Taken} → t ≡ character_from (pieces kind_of (drop at text)) → {r : Next}
    → r ≡ next_of t.code t.size → NextBegins mended_from text at r
byte-begins text at k e f =
    test (ltb at (length text)) (λ q. byte_inside text at (ltb-true at (length text) q) e f)
    (λ q. byte-end text at (ltb-false at (length text) q) k e f)

-- ---- one step

-- what is left where a front has passed, or has not
passed_on : (from : List ℕ → ℕ → List ℕ) (text : List ℕ) (at : ℕ) {a : Next} → NextBegins from text at a → (b : Bool)
    → from text (at + cond b a.size 0) ≡ cond b (text_after (from text at)) (from text at)
passed_on from text at h true = h.after-it
passed_on from text at h false = rw (add-zero at)

passed-inside : (from : List ℕ → ℕ → List ℕ) (text : List ℕ) (at : ℕ) {a : Next} → NextBegins from text at a → (b : Bool)
    → at + cond b a.size 0 ≤ length text
passed-inside from text at h true = h.inside
passed-inside from text at h false = omega (arith, h.inside)

passed-most : (b : Bool) (n : ℕ) → cond b n 0 ≤ n
passed-most true n = omega arith
passed-most false n = omega arith

-- the numbers that the code adds fit
adds-within : (at size : ℕ) (b : Bool) {p : ℕ} → at + size ≤ 16384 → p ≡ cond b size 0 → at + p ≤ 16384
adds-within at size b h e = omega (arith, passed-most b size)

module _ {s : At} {a b : Next} {m : Move} (f : WithinLimit s a b) (steps : Steps s.state a.front b.front m) {p : ℕ} where
  pub first-adds : p ≡ cond m.first a.size 0 → s.first + p ≤ 16384
  first-adds e = adds-within s.first a.size m.first f.first_fits e

  pub second-adds : p ≡ cond m.second b.size 0 → s.second + p ≤ 16384
  second-adds e = adds-within s.second b.size m.second f.second_fits e

module _ (s : At) (a b : Next) (m : Move) (steps : Steps s.state a.front b.front m) {p q : ℕ}
    (first-passes : p ≡ cond m.first a.size 0) (second-passes : q ≡ cond m.second b.size 0) where
  module _ (from : List ℕ → ℕ → List ℕ) (first second : List ℕ) (h : NextBegins from first s.first a) (k : NextBegins from second s.second b) where
    step-ranks : rank_from s.state (from first s.first) (from second s.second)
        ≡ rank_from m.state (from first (s.first + p)) (from second (s.second + q))
    step-ranks =
        steps.ranks (from first s.first) (from second s.second) h.front k.front
        ∙ rw (first-passes, second-passes, passed_on from first s.first h m.first, passed_on from second s.second k m.second)

    step_follows : Follows from first second s (record { state = m.state; first = s.first + p; second = s.second + q })
    step_follows = record {
      ranks = step-ranks;
      first_on = omega arith;
      second-on = omega arith;
      first-inside = rw first-passes (passed-inside from first s.first h m.first);
      second-inside = rw second-passes (passed-inside from second s.second k m.second);
    }

    step-more : Passed a.front m.first ⊎ Passed b.front m.second → s.first + s.second < s.first + p + (s.second + q)
    step-more (inl (e, n)) = omega (arith, h.more n, first-passes ∙ ap (λ (c : Bool). cond c a.size 0) e)
    step-more (inr (e, n)) = omega (arith, k.more n, second-passes ∙ ap (λ (c : Bool). cond c b.size 0) e)

  -- THE STEP, wherever the two characters begin
  pub advances : Advances s a b (record { state = m.state; first = s.first + p; second = s.second + q })
  advances = record {
    advanced = λ from first second h k. record {
      follows = step_follows from first second h k;
      more = λ g. step-more from first second h k (steps.on g);
    };
  }

module _ {from : List ℕ → ℕ → List ℕ} {first second : List ℕ} {s : At} where
  pub fits : Reached first second s → {a b : Next} → NextBegins from first s.first a → NextBegins from second s.second b → WithinLimit s a b
  fits r h k = record {
    first_fits = omega (arith, h.inside, r.first-limit);
    second_fits = omega (arith, k.inside, r.second-limit);
  }

  pub follows-none : s.first ≤ length first → s.second ≤ length second → Follows from first second s s
  follows-none h k = record { ranks = refl; first_on = omega arith; second-on = omega arith; first-inside = h; second-inside = k }

  module _ {t : At} (f : Follows from first second s t) where
    pub follows_on : {u : At} → Follows from first second t u → Follows from first second s u
    follows_on g = record {
      ranks = f.ranks ∙ g.ranks;
      first_on = omega (arith, f.first_on, g.first_on);
      second-on = omega (arith, f.second-on, g.second-on);
      first-inside = g.first-inside;
      second-inside = g.second-inside;
    }

    pub advanced-on : {u : At} → Advanced from first second t u → Advanced from first second s u
    advanced-on g = record {
      follows = follows_on g.follows;
      more = λ e. omega (arith, g.more e, f.first_on, f.second-on);
    }

    pub follows-reached : length first ≤ 16384 → length second ≤ 16384 → Reached first second t
    follows-reached h k =
        record { first-inside = f.first-inside; second-inside = f.second-inside; first-limit = h; second-limit = k }

-- ---- the loop

-- what is left of the texts, and 1 while the answer is to be found
abbrev pub measure_of : List ℕ → List ℕ → At → ℕ
measure_of first second s = (length first - s.first) + (length second - s.second) + cond (goes_on_as s.state) 1 0

abbrev pub start : At
start = record { state = Apart; first = 0; second = 0 }

module _ {from : List ℕ → ℕ → List ℕ} {first second : List ℕ} where
  pub less : {s t : At} → {g : Bool} → g ≡ goes_on_as s.state → g ≡ true → Advanced from first second s t
      → measure_of first second t < measure_of first second s
  less {s} {t} e q a =
      test (goes_on_as t.state)
      (λ h.
      rw (h, ← e, q) (omega (arith, a.more h, a.follows.first_on, a.follows.second-on, a.follows.first-inside, a.follows.second-inside)))
      (λ h. rw (h, ← e, q) (omega (arith, a.follows.first_on, a.follows.second-on, a.follows.first-inside, a.follows.second-inside)))

-- where the answer is found, what is left does not count
found : (s : State) → goes_on_as s ≡ false → (x y : List ℕ) → rank_from s [] [] ≡ rank_from s x y
found Apart e x y = absurd (false≢true (sym e))
found Zeros e x y = absurd (false≢true (sym e))
found (Number o) e x y = absurd (false≢true (sym e))
found (Done o) e x y = refl

module _ {from : List ℕ → ℕ → List ℕ} {first second : List ℕ} {s : At} (f : Follows from first second start s) {g : Bool}
    (e : g ≡ goes_on_as s.state) (ended : g ≡ false) {r : Ordering} (settled : r ≡ rank_from s.state [] []) where
  loop-found : r ≡ rank_from Apart (from first 0) (from second 0)
  loop-found = settled ∙ found s.state (sym e ∙ ended) (from first s.first) (from second s.second) ∙ sym f.ranks

pub rank-found : {first second : List ℕ} {s : At} → Follows joined_from first second start s → {g : Bool} → g ≡ goes_on_as s.state → g ≡ false
    → {r : Ordering} → r ≡ rank_from s.state [] [] → r ≡ rank first second
unfolding rank
rank-found f e h q = loop-found f e h q

pub rank-bytes-found : {first second : List ℕ} {s : At} → Follows mended_from first second start s → {g : Bool} → g ≡ goes_on_as s.state → g ≡ false
    → {r : Ordering} → r ≡ rank_from s.state [] [] → r ≡ rank_bytes first second
unfolding rank rank_bytes
rank-bytes-found f e h q = loop-found f e h q

-- ---- bytes that are alike

module _ (b : ℕ) where
  pub plain-below : b < 0x30 → is_plain b ≡ true
  unfolding is_plain
  plain-below h = rw (lt-ltb b 0x80 (omega arith), digit-below b h)

  pub plain-above : 0x3A ≤ b → b < 0x80 → is_plain b ≡ true
  unfolding is_plain
  plain-above h k = rw (lt-ltb b 0x80 k, digit-above b h)

  pub plain-digit : 0x30 ≤ b → b < 0x3A → is_plain b ≡ false
  unfolding is_plain
  plain-digit h k = rw (lt-ltb b 0x80 (omega arith), digit-yes b h (omega arith))

  pub plain-high : 0x80 ≤ b → is_plain b ≡ false
  unfolding is_plain
  plain-high h = rw (le-ltb b 0x80 h)

  plain-low : is_plain b ≡ true → b < 0x80
  unfolding is_plain
  plain-low e = ltb-true b 0x80 (and_left (ltb b 0x80) (not (is_digit b)) e)

  plain-no-digit : is_plain b ≡ true → is_digit b ≡ false
  unfolding is_plain
  plain-no-digit e = not-true (is_digit b) (and_right (ltb b 0x80) (not (is_digit b)) e)

-- each byte of a common front is alike
common-at : (x y : List ℕ) (n : ℕ) → n < prefix_len is_alike (zip x y) → AlikeAt x y n n
common-at [] y n h = absurd (omega arith)
common-at (a ∷ x) [] n h = absurd (omega arith)
common-at (a ∷ x) (b ∷ y) n h = by (is_alike (a, b)) refl n h (common-at x y)
  where
    by : (c : Bool) → is_alike (a, b) ≡ c → (n : ℕ) → n < cond c (1 + prefix_len is_alike (zip x y)) 0
        → ((n : ℕ) → n < prefix_len is_alike (zip x y) → AlikeAt x y n n) → AlikeAt (a ∷ x) (b ∷ y) n n
    by true e zero h rest = record {
      first-inside = omega arith;
      second-inside = omega arith;
      same = eqb-true a b (and_left (eqb a b) (is_plain a) e);
      plain = and_right (eqb a b) (is_plain a) e;
    }
    by true e (suc n) h rest =
        let p = rest n (omega arith) in
        record { first-inside = omega (arith, p.first-inside); second-inside = omega (arith, p.second-inside); same = p.same; plain = p.plain }
    by false e n h rest = absurd (omega arith)

-- an ASCII byte is the character that begins there
low-front : (text : List ℕ) (at : ℕ) → at < length text → get_or text at 0 < 0x80 → mended_from text at ≡ get_or text at 0 ∷ mended_from text (at + 1)
low-front text at h l =
    let a = get_or text at 0 in
    let piece : pieces kind_of (drop at text) ≡ good (a ∷ []) ∷ pieces kind_of (drop (at + 1) text) =
    ap (pieces kind_of) (at-index 0 text at h)
    ∙ full-piece encodes8 (a ∷ []) (drop (at + 1) text) (full_by table37 a (row-between table37 0x00 0x7F tt (omega arith) (omega arith)) ends) in
    let alone : good_of a 1 ≡ character_from (pieces kind_of (drop at text)) =
    sym (ap character_from piece ∙ grown-stops form8 (good_of a 1) (pieces kind_of (drop (at + 1) text))
    (λ b. pair-none a b (role-between 0x00 0x7F a tt (omega arith) (omega arith)))) in
    let c : Character form8 text at (good_of a 1) = character-next encodes8 text at h alone in
    c.joins

module _ {first second : List ℕ} {i j : ℕ} where
  pub alike-none : i ≤ length first → j ≤ length second → Alike first second i j 0
  alike-none h k = record {
    same = [];
    plain = none;
    first-stands = rw (add-zero i);
    second-stands = rw (add-zero j);
    first-inside = omega arith;
    second-inside = omega arith;
  }

  pub alike-more : {n : ℕ} → Alike first second i j n → AlikeAt first second (i + n) (j + n) → Alike first second i j (n + 1)
  alike-more {n} a h =
      let b = get_or first (i + n) 0 in
      let l : b < 0x80 = plain-low b h.plain in
      let m : get_or second (j + n) 0 < 0x80 = omega (arith, h.same) in
      let p : i + n + 1 ≡ i + (n + 1) = omega arith in
      let q : j + n + 1 ≡ j + (n + 1) = omega arith in
      record {
        same = a.same ++ (b ∷ []);
        plain = all_append a.plain (also (plain-no-digit b h.plain) none);
        first-stands = rw (append_assoc, ← p) (a.first-stands ∙ ap (λ (x : List ℕ). a.same ++ x) (low-front first (i + n) h.first-inside l));
        second-stands =
            rw (append_assoc, ← q, h.same)
            (a.second-stands ∙ ap (λ (x : List ℕ). a.same ++ x) (low-front second (j + n) h.second-inside m));
        first-inside = omega (arith, h.first-inside);
        second-inside = omega (arith, h.second-inside);
      }

-- the texts' common front from the two indices on
module _ (first second : List ℕ) (i j : ℕ) where
  common-from : (n : ℕ) → AlikeAt (drop i first) (drop j second) n n → AlikeAt first second (i + n) (j + n)
  common-from n a = record {
    first-inside = omega (arith, a.first-inside, length-drop i first);
    second-inside = omega (arith, a.second-inside, length-drop j second);
    same = sym (get_or-drop i first n 0) ∙ a.same ∙ get_or-drop j second n 0;
    plain = ap is_plain (sym (get_or-drop i first n 0)) ∙ a.plain;
  }

  common-front : i ≤ length first → j ≤ length second → (n : ℕ) → n ≤ prefix_len is_alike (zip (drop i first) (drop j second)) → Alike first second i j n
  common-front h k zero l = alike-none h k
  common-front h k (suc n) l =
      rw (← add-one) (alike-more (common-front h k n (omega arith)) (common-from n (common-at (drop i first) (drop j second) n (omega arith))))

  pub alike-common : i ≤ length first → j ≤ length second → {n : ℕ}
      → n ≡ length (take_while is_alike (zip (take (length first - i) (drop i first)) (take (length second - j) (drop j second)))) → Alike first second i j n
  alike-common h k {n} e =
      let p = rw (between_to_end first i (length first) (omega arith), between_to_end second j (length second) (omega arith)) at e in
      common-front h k n (omega (arith, p, length-take (prefix_len is_alike (zip (drop i first) (drop j second))) (zip (drop i first) (drop j second))))

-- the same code points in front, none a digit, decide nothing
same-front : (x y : List ℕ) {z : List ℕ} → All (λ c. is_digit c ≡ false) z → rank_from Apart (z ++ x) (z ++ y) ≡ rank_from Apart x y
same-front x y none = refl
same-front x y (also {a = c} {x = z} h p) = rw (items-other c (z ++ x) h, items-other c (z ++ y) h, by-value-self c) (same-front x y p)

apart-is : (s : State) → is_apart_as s ≡ true → s ≡ Apart
apart-is Apart e = refl
apart-is Zeros e = absurd (false≢true e)
apart-is (Number o) e = absurd (false≢true e)
apart-is (Done o) e = absurd (false≢true e)

pub alike-follows : {first second : List ℕ} {s : At} {n : ℕ} {g : Bool} → g ≡ is_apart_as s.state → g ≡ true
    → Alike first second s.first s.second n
    → Follows mended_from first second s (record { state = Apart; first = s.first + n; second = s.second + n })
alike-follows {first} {second} {s} {n} e h a = record {
  ranks = rw (apart-is s.state (test-true e h), a.first-stands, a.second-stands)
      (same-front (mended_from first (s.first + n)) (mended_from second (s.second + n)) a.plain);
  first_on = omega arith;
  second-on = omega arith;
  first-inside = a.first-inside;
  second-inside = a.second-inside;
}
