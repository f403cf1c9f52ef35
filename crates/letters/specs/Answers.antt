-- The answer of the one step read as a verdict (document 01, 'Refusal numbers'); what one step
-- makes, and the full parts of a code point, as lists.
use Rattle.std.specs.Prelude.{List, [], ◌∷◌, ℕ, Result, Ok, Err}
use Rattle.answers.specs.Verdicts.{Verdict, done}
use Rattle.answers.specs.Answers.{refused_by}
use Rattle.answers.specs.declared.refusal.Refusal.{Refusal}
use Rattle.letters.specs.declared.step.Parts.{Parts}
use Rattle.letters.specs.declared.step.Parts.TheVariants.{One, Two}
use Rattle.letters.specs.declared.parts.Whole.{Whole}
use Rattle.letters.specs.declared.parts.Whole.TheVariants.{One as OneOnly, Two as TwoOnly, Three}

-- the parts, one or two
abbrev pub codes_in : Parts → List ℕ
codes_in (One a) = a ∷ []
codes_in (Two a b) = a ∷ b ∷ []

-- the full parts, one, two or three
abbrev pub parts_in : Whole → List ℕ
parts_in (OneOnly a) = a ∷ []
parts_in (TwoOnly a b) = a ∷ b ∷ []
parts_in (Three a b c) = a ∷ b ∷ c ∷ []

abbrev pub stepped : Result Parts Refusal → Verdict (List ℕ)
stepped (Ok parts) = done (codes_in parts)
stepped (Err r) = refused_by r
