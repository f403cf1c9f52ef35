-- `names::write::name` meets its contract: no syllable, or named by its three indices.
use Rattle.names.proofs.Writing.{indices-inside, names-refused, names-by}
use Rattle.letters.proofs.Steps.{syllable-yes, syllable-below, syllable-above}
use Rattle.names.proofs.write.name.Goals as goal

pub returns-then-code-lt44032 : goal.returns-then-code-lt44032
returns-then-code-lt44032 c = names-refused _ (syllable-below _ c.if-code-lt44032.true)

pub returns-then-code-gt55203 : goal.returns-then-code-gt55203
returns-then-code-gt55203 c = names-refused _ (syllable-above _ c.if-code-gt55203.true)

pub indices_of-requires : goal.indices_of-requires
indices_of-requires c = syllable-yes _ c.if-code-lt44032.false c.if-code-gt55203.false

pub name_by-requires : goal.name_by-requires
name_by-requires c = indices-inside _ c.if-code-lt44032.false c.if-code-gt55203.false c.indices_of.ensures

pub returns : goal.returns
returns c = names-by _
    (syllable-yes _ c.if-code-lt44032.false c.if-code-gt55203.false)
    c.indices_of.ensures c.name_by.ensures
