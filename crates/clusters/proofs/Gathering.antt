-- What the code has where the search does not see it: a step of the gatherer at plain text.
use Prim.Native.Nat.{ℕ, ◌<◌}
use Rattle.joining.specs.declared.joiner.Emitted.TheVariants.{One as OneOut}
use Rattle.clusters.specs.Inner.{GatherStepped}
use Rattle.clusters.specs.declared.gather.Pending.TheVariants.{Two}
use Rattle.clusters.proofs.Clustering.{two-low, three-low}

pub decided-plain : (a b c : ℕ) → a < 0x1100 → GatherStepped (Two a b) c (record { pending = Two b c; out = OneOut a })
decided-plain a b c h = record { pends = rw (three-low a b c h, two-low a b h); writes = rw (three-low a b c h, two-low a b h) }
