-- `mending::fast::finished_at` meets its contract: three bytes that pass are a character.
use mathlib.Core.Path.{◌∙◌, ap}
use native.Mathlib.Omega.{arith}
use Rattle.encodings.specs.Reading.{good_of}
use Rattle.mending.proofs.Passes.{three-character}
use Rattle.mending.proofs.fast.finished_at.Goals as goal

pub returns : goal.returns
returns c = ap (λ k. good_of k 3) c.three_code.ensures
    ∙ three-character c.args.text.now c.args.at (omega (arith, c.if-text-at-lt3.false)) c.byte_at.ensures
    (c.is_three.ensures c.if-not-is_three.false)
