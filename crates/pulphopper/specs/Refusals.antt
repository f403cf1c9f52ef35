-- A refusal as C is told of it (include/pulphopper.h), in the three numbers of an answer.
use Rattle.answers.specs.Answers.{told}
use Rattle.answers.specs.declared.refusal.Refusal.{Refusal}
use Rattle.pulphopper.specs.declared.answer.Answer.{Answer}

-- its number, its place, and count 0
abbrev pub refused_answer : Refusal → Answer
refused_answer r = record { refusal = (told r).number; count = 0; value = (told r).place }
