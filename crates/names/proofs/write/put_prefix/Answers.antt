-- `names::write::put_prefix` meets its contract: the prefix is copied to the front.
use mathlib.Core.Path.{refl, sym}
use native.Mathlib.Omega.{arith}
use lib.Seq.{length-take-le}
use Rattle.std.proofs.lemmas.List.Edits.{sets-eq}
use Rattle.names.specs.Names.{prefix}
use Rattle.names.proofs.write.put_prefix.Goals as goal

pub slice_bounds-copy_from_slice-end : goal.slice_bounds-copy_from_slice-end
unfolding prefix
slice_bounds-copy_from_slice-end c = omega (arith, c.requires.fits)

pub slice_bounds-copy_from_slice-end-2 : goal.slice_bounds-copy_from_slice-end-2
unfolding prefix
slice_bounds-copy_from_slice-end-2 c = sym (length-take-le 16 c.args.out.now (omega (arith, c.requires.fits)))

pub copy_from_slice-requires : goal.copy_from_slice-requires
unfolding prefix
copy_from_slice-requires c = length-take-le 16 c.args.out.now (omega (arith, c.requires.fits))

pub returns : goal.returns
unfolding prefix
returns c = record { after = refl; holds = rw c.copy_from_slice.ensures.after (sym (sets-eq prefix c.args.out.now 0 c.requires.fits)) }
