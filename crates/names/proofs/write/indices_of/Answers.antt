-- `names::write::indices_of` meets its contract: a syllable is not below AC00.
use Rattle.letters.proofs.Steps.{syllable-least}
use Rattle.names.proofs.write.indices_of.Goals as goal

pub overflow_sub-index : goal.overflow_sub-index
overflow_sub-index c = syllable-least _ c.requires
