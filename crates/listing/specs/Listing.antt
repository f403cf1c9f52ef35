-- The list of a text's characters: document 01, 'Programs', the lister. A text of bytes is mended,
-- and each joined character gives a line.
use Rattle.std.specs.Prelude.{List, ℕ, length, Result}
use Rattle.laws.specs.Lists.{each}
use Rattle.answers.specs.Checks.{takes_bytes}
use Rattle.answers.specs.Verdicts.{Fills}
use Rattle.answers.specs.Answers.{answered}
use Rattle.answers.specs.declared.refusal.Refusal.{Refusal}
use Rattle.joining.specs.Joining.{join}
use Rattle.utf8.specs.Utf8.{read_text}
use Rattle.listing.specs.Line.{line_of}

-- THE LIST
unfoldable pub listed : List ℕ → List ℕ
listed bytes = each line_of (join (read_text bytes))

-- THE CONTRACT: 1, then 3
pub record Lists (text out : List ℕ) (r : Result ℕ Refusal) (out' : List ℕ) : Type 0 where
  pub fills : Fills (takes_bytes text) (listed text) (length (listed text)) out (answered r) out'
