-- What an arm that takes two of the three fronts tells: which one it is not. In order: no digit
-- (`closed-tags`); the end before the other two (`end-first`), a code point after the other two
-- (`other_last`).
use mathlib.Core.Path.{◌≡◌, refl}
use Prim.Native.Nat.{ℕ}
use Rattle.ranking.specs.Inner.{done_with, Closed, Steps}
use Rattle.std.specs.declared.cmp.Ordering.TheVariants.{Less, Greater}
use Rattle.ranking.specs.declared.compare.Front.{Front}
use Rattle.ranking.specs.declared.compare.Front.TheVariants.{End, Digit, Other}
use Rattle.ranking.specs.declared.compare.State.TheVariants.{Apart}
use Rattle.ranking.proofs.Steps.{apart-end-digit, apart-end-other, apart-other-end, apart-other-digit}

pub closed-tags : (a : Front) → ((d : ℕ) → a ≡ Digit d → ⊥) → Closed a
closed-tags End h = tt
closed-tags (Digit d) h = absurd (h d refl)
closed-tags (Other c) h = tt

pub end-first : (b : Front) → (b ≡ End → ⊥) → Steps Apart End b (done_with Less)
end-first End h = absurd (h refl)
end-first (Digit d) h = apart-end-digit d
end-first (Other c) h = apart-end-other c

pub other_last : (a : ℕ) (b : Front) → ((c : ℕ) → b ≡ Other c → ⊥) → Steps Apart (Other a) b (done_with Greater)
other_last a End h = apart-other-end a
other_last a (Digit d) h = apart-other-digit a d
other_last a (Other c) h = absurd (h c refl)
