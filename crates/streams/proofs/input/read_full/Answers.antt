use Rattle.std.proofs.Common.{◌≡◌, ℕ, ◌+◌, ◌-◌, ◌≤◌, List, ◌++◌, rules, length, take, drop, sym, ap, ◌∙◌, subst, le_refl, drop_at, length-take-le}
use Rattle.std.proofs.lemmas.Slice.{take-put_mid_below}
use Rattle.std.specs.Io.KnownBytes.{Consumes}
use Rattle.std.proofs.KnownBytes.{Consumes-trans}
use borrow.Rule.Slice.PartMut.{put_mid, post_of}
use lib.Seq.{take-add, take-append-le}
use Rattle.streams.proofs.input.read_full.Goals as goal

-- a read of n bytes, into what stands from a on, goes on with what stood before a
take-read : (a k n : ℕ) (xs ys : List ℕ) → a ≤ length xs → n ≤ length ys → take (a + n) (put_mid a k xs ys) ≡ take a xs ++ take n ys
take-read a k n xs ys within fits =
    let all = put_mid a k xs ys in
    let after = post_of a k xs in
    take-add a n all
    ∙ ap (λ l. l ++ take n (drop a all)) (take-put_mid_below a k xs ys a (le_refl a) within)
    ∙ ap (λ l. take a xs ++ take n l) (drop_at (take a xs) (ys ++ after) a (length-take-le a xs within))
    ∙ ap (λ l. take a xs ++ l) (take-append-le n ys after fits)

pub loop-size-preserved : goal.loop-size-preserved
loop-size-preserved g c =
    let bytes = take-read c.loop-size.size (length c.loop-size.buffer - c.loop-size.size) c.in_ok-more.more c.loop-size.buffer c.read.new.buf c.loop-size.invariant.1 c.in_ok-more.ensures.bound.0 in
    (search rules, search rules, subst (Consumes _ _) (sym bytes) (Consumes-trans _ _ _ _ _ c.loop-size.invariant.2 c.in_ok-more.ensures.bytes.0))
