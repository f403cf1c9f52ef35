-- The readings of the one step's answer, and of the full parts of a code point, are injective: any
-- two answers that a contract admits are equal.
use mathlib.Core.Path.{◌≡◌, ap}
use Rattle.std.specs.Prelude.{Result, Ok, Err}
use Rattle.answers.specs.declared.refusal.Refusal.{Refusal}
use Rattle.answers.proofs.Answers.{refused_by-injective}
use Rattle.letters.specs.declared.step.Parts.{Parts}
use Rattle.letters.specs.declared.step.Parts.TheVariants.{One, Two}
use Rattle.letters.specs.declared.parts.Whole.{Whole}
use Rattle.letters.specs.declared.parts.Whole.TheVariants.{One as OneOnly, Two as TwoOnly, Three}
use Rattle.letters.specs.Answers.{codes_in, parts_in, stepped}

pub listed-injective : (a b : Parts) → codes_in a ≡ codes_in b → a ≡ b
listed-injective (One a) (One b) e = cc
listed-injective (One a) (Two b c) e = cc
listed-injective (Two a b) (One c) e = cc
listed-injective (Two a b) (Two c d) e = cc

pub parts_in-injective : (a b : Whole) → parts_in a ≡ parts_in b → a ≡ b
parts_in-injective (OneOnly a) (OneOnly b) e = cc
parts_in-injective (OneOnly a) (TwoOnly b c) e = cc
parts_in-injective (OneOnly a) (Three b c d) e = cc
parts_in-injective (TwoOnly a b) (OneOnly c) e = cc
parts_in-injective (TwoOnly a b) (TwoOnly c d) e = cc
parts_in-injective (TwoOnly a b) (Three c d f) e = cc
parts_in-injective (Three a b c) (OneOnly d) e = cc
parts_in-injective (Three a b c) (TwoOnly d f) e = cc
parts_in-injective (Three a b c) (Three d f g) e = cc

pub stepped-injective : (a b : Result Parts Refusal) → stepped a ≡ stepped b → a ≡ b
stepped-injective (Ok p) (Ok q) e = ap Ok (listed-injective p q (cc))
stepped-injective (Ok p) (Err r) e = cc
stepped-injective (Err r) (Ok p) e = cc
stepped-injective (Err r) (Err q) e = ap Err (refused_by-injective r q e)
