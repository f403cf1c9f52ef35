-- Sentences of document 01 that promise something and are no part of a demand: each a statement
-- over the definitions that the calls' contracts cite.
use Rattle.std.specs.Prelude.{◌≡◌, ◌⊎◌, List, [], ◌∷◌, ◌++◌, ℕ, ◌+◌, length}
use Rattle.answers.specs.Checks.{refuses, takes_bytes}
use Rattle.answers.specs.Verdicts.{fits}
use Rattle.letters.specs.declared.sort.Make.{Make}
use Rattle.letters.specs.declared.sort.Make.TheVariants.{Simple, Cluster}
use Rattle.letters.specs.declared.sort.Sort.{Sort}
use Rattle.letters.specs.declared.sort.Sort.TheVariants.{ModernInitial, OldInitial, ModernPeak, OldPeak, ModernFinal, OldFinal}
use Rattle.letters.specs.Syllables.{full_parts}
use Rattle.letters.specs.Sorts.{how_many}
use Rattle.utf8.specs.Utf8.{read_text, ill_text}
use Rattle.ranking.specs.Items.{Item, number, character}
use Rattle.ranking.specs.Ranking.{rank_items}
use Rattle.std.specs.declared.cmp.Ordering.TheVariants.{Less}
use Rattle.labels.specs.Images.{record_at, takes_record, takes_writing}
use Rattle.labels.specs.declared.write.Form.{Form}

-- simple letters and clusters of a sort
abbrev both_makes : (Make → Sort) → ℕ
both_makes sort = how_many (sort Simple) + how_many (sort Cluster)

-- "Counts are 90 initials, 66 peaks and 82 finals", over all code points; document 02, #106, adds
-- 34, 28 and 55
abbrev pub LettersCounted : Type 0
LettersCounted =
    (both_makes ModernInitial + both_makes OldInitial ≡ 90 + 34)
    × (both_makes ModernPeak + both_makes OldPeak ≡ 66 + 28)
    × (both_makes ModernFinal + both_makes OldFinal ≡ 82 + 55)

-- "AC0C has final 11B3"
abbrev pub Ac0c : Type 0
Ac0c = full_parts (0xAC0C ∷ []) ≡ 0x1100 ∷ 0x1161 ∷ 0x11B3 ∷ []

-- "Only refusals 5 and 7 reject ill-formed bytes": where a text of bytes is read, mended or listed,
-- of whatever the call makes, a refusal is 1 or 3
abbrev pub OnlyByLength : Type 0
OnlyByLength =
    (text whole out : List ℕ) (n place : ℕ) → fits (takes_bytes text) whole out ≡ refuses n place → (n ≡ 1) ⊎ (n ≡ 3)

-- "A true FFFD in the text isn't counted"
abbrev pub TrueFffd : Type 0
TrueFffd = (read_text (0xEF ∷ 0xBF ∷ 0xBD ∷ []) ≡ 0xFFFD ∷ []) × (ill_text (0xEF ∷ 0xBF ∷ 0xBD ∷ []) ≡ 0)

-- "Numbers stand before code points"
abbrev pub NumbersFirst : Type 0
NumbersFirst = (n c : ℕ) (x y : List Item) → rank_items (number n ∷ x) (character c ∷ y) ≡ Less

-- "a label whose items are the beginning of another's comes first"
abbrev pub BeginningFirst : Type 0
BeginningFirst = (x : List Item) (b : Item) (y : List Item) → rank_items x (x ++ b ∷ y) ≡ Less

-- "Reading one record judges it alone": the other records may hold anything
abbrev pub JudgedAlone : Type 0
JudgedAlone =
    (image other : List ℕ) (k : ℕ) → length image ≡ length other → record_at image k ≡ record_at other k → takes_record image k ≡ takes_record other k

-- the writer "does not judge what the record held before", nor what any record holds
abbrev pub NothingStoredJudged : Type 0
NothingStoredJudged =
    (image other : List ℕ) (k : ℕ) (form : Form) (label : List ℕ) → length image ≡ length other
    → takes_writing image k form label ≡ takes_writing other k form label
