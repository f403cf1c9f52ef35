-- The accident cannot happen again: a name in finished syllables and in single letters is one boat,
-- and two boats are never taken for one.
use mathlib.Core.Path.{◌≡◌, sym, ◌∙◌, ap}
use mathlib.Core.Logic.{◌↔◌}
use mathlib.Core.List.{List}
use Prim.Native.Nat.{ℕ}
use Rattle.letters.specs.Syllables.{full_parts}
use Rattle.letters.proofs.FullParts.{full-full, full-good}
use Rattle.joining.proofs.Joins.{same-join, same_parts}
use Rattle.normal.specs.Forms.{nfd}
use Rattle.normal.proofs.Repertoire.{equivalent-joined, nfd-of-parts}
use Rattle.encodings.proofs.Texts.{read-write}
use Rattle.utf8.specs.Utf8.{read_text}
use Rattle.utf8.proofs.Round.{encodes8}
use Rattle.mending.proofs.Same.{same-call}
use Rattle.demands.specs.Accident.{Mended, OneBoat, SameBoat, TwoBoats}

-- two calls that are done wrote the same exactly when what was read has the same full parts
same-written : (s t : List ℕ) {v w : List ℕ} → Mended s v → Mended t w → (v ≡ w) ↔ (full_parts (read_text s) ≡ full_parts (read_text t))
same-written s t m n = rw (m.is, n.is) (same-call encodes8 s t m.call n.call)

pub one-boat : OneBoat
one-boat name v w good m n = (same-written _ _ m n).1 (rw (read-write encodes8 good, read-write encodes8 (full-good good)) (sym (full-full name)))

pub same-boat : SameBoat
same-boat ucd u s t v w h k m n =
    let e = equivalent-joined ucd u (read_text s) (read_text t) h k in
    let f = same-written s t m n in
    ((λ q. e.1 (same_parts (read_text s) (read_text t) (f.0 q))), (λ q. f.1 (same-join (read_text s) (read_text t) (e.0 q))))

pub two-boats : TwoBoats
two-boats ucd u s t v w m n apart e =
    apart
    (sym (nfd-of-parts ucd u (read_text s)) ∙ ap (nfd ucd) ((same-written s t m n).0 e) ∙ nfd-of-parts ucd u (read_text t))
