use Rattle.letters.proofs.FullParts.{parts-piece, parts-end}
use Rattle.laws.proofs.Filling.{filling-room, filling-more, filling-all}
use Rattle.letters.proofs.parts.write_parts.Goals as goal

pub take_apart-at-requires : goal.take_apart-at-requires
take_apart-at-requires c = filling-room c.requires c.loop-code.invariant (parts-piece _ _ c.loop-code-test.true)

pub loop-code-preserved : goal.loop-code-preserved
loop-code-preserved c = filling-more c.requires c.loop-code.invariant (parts-piece _ _ c.loop-code-test.true) c.take_apart-at.ensures

pub returns : goal.returns
returns c = filling-all c.loop-code.invariant (parts-end _ _ c.loop-code-test.false)
