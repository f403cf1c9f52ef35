-- `letters::parts::parts_count` meets its contract: the chain adds up the parts of each code point.
use mathlib.Core.Path.{◌≡◌, sym, ◌∙◌}
use Rattle.std.proofs.Common.{rules, sum_by, length}
use Rattle.std.proofs.iter.runs.Made.{chains}
use Rattle.letters.specs.Syllables.{parts_of}
use Rattle.letters.proofs.FullParts.{full-sum}
use Rattle.letters.proofs.parts.parts_count.Goals as goal

pub returns : goal.returns
returns c =
    let sum : c.sum.result ≡ sum_by (λ x. length (parts_of x)) c.args.text.now = search (rules, chains) in
    sum ∙ sym (full-sum c.args.text.now)
