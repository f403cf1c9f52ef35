-- `letters::sort::sort_of` meets its contract: at each return the bounds are known that the number
-- lies between, and `sort-between` says what the definition gives there. The inner match tests its
-- single numbers first; after them, `apart` says it of bounds that have some of these between them.
use mathlib.Core.Path.{◌≡◌, refl}
use mathlib.Core.List.{List, [], ◌∷◌}
use Prim.Native.Nat.{ℕ, ◌+◌, ◌≤◌, ◌<◌}
use native.Mathlib.Omega.{arith}
use Rattle.laws.specs.Lists.{count}
use Rattle.laws.specs.Ranges.{within}
use Rattle.letters.specs.declared.sort.Make.TheVariants.{Simple, Cluster}
use Rattle.letters.specs.declared.sort.Sort.{Sort}
use Rattle.letters.specs.declared.sort.Sort.TheVariants.{ModernInitial, OldInitial, ModernPeak, OldPeak, ModernFinal, OldFinal}
use Rattle.letters.specs.Sorts.{class_of, make_of, sort_of}
use Rattle.letters.proofs.Sorts.{sort-between, sort-lv, sort-lvt, Gone, gone-all, strays, sort-apart}
use Rattle.letters.proofs.sort.sort_of.Goals as goal
use Rattle.letters.proofs.sort.sort_of.Goals.{in_default-via-then-code-lt44032, in_default-via-else-code-lt44032+else-code-lt55204}

abbrev singles : List ℕ
singles =
    0x1100 ∷ 0x1101 ∷ 0x1104 ∷ 0x1108 ∷ 0x1109 ∷ 0x110A ∷ 0x110D ∷ 0x113C ∷ 0x113D ∷ 0x113E ∷ 0x113F ∷ 0x1140
    ∷ 0x114C ∷ 0x114D ∷ 0x114E ∷ 0x114F ∷ 0x1150 ∷ 0x1159 ∷ 0x115F ∷ 0x1160 ∷ 0x1161 ∷ 0x1162 ∷ 0x1163 ∷ 0x1164
    ∷ 0x1165 ∷ 0x1166 ∷ 0x1167 ∷ 0x1168 ∷ 0x1169 ∷ 0x1174 ∷ 0x1175 ∷ 0x119E ∷ 0x11A8 ∷ 0x11AB ∷ 0x11B9 ∷ 0x11BA
    ∷ 0x11BB ∷ 0x11EB ∷ 0x11F0 ∷ 0x11F9 ∷ []

apart : (s : Sort) (lo n : ℕ) {c : ℕ} → count (strays s singles) lo n ≡ 0 → Gone c (Unit {0}) singles → lo ≤ c → c < lo + n → s ≡ sort_of c
apart s lo n {c} none gone l h = sort-apart s singles lo n none (gone-all c (Unit {0}) singles gone).1 l h

pub returns-in-0-to-4351 : goal.returns-in-0-to-4351
returns-in-0-to-4351 c = sort-between 0 0x10FF tt (omega arith) (omega arith)

pub returns-then-code-eq0 : goal.returns-then-code-eq0
returns-then-code-eq0 c = sort-lv (omega arith) (omega arith) c.if-code-eq0.true

pub returns-else-code-eq0 : goal.returns-else-code-eq0
returns-else-code-eq0 c = sort-lvt (omega arith) (omega arith) c.if-code-eq0.false

pub returns-in-4352 : goal.returns-in-4352
returns-in-4352 c = sort-between 0x1100 0x1100 tt (omega arith) (omega arith)

pub returns-in-4353 : goal.returns-in-4353
returns-in-4353 c = sort-between 0x1101 0x1101 tt (omega arith) (omega arith)

pub returns-in-4356 : goal.returns-in-4356
returns-in-4356 c = sort-between 0x1104 0x1104 tt (omega arith) (omega arith)

pub returns-in-4360 : goal.returns-in-4360
returns-in-4360 c = sort-between 0x1108 0x1108 tt (omega arith) (omega arith)

pub returns-in-4361 : goal.returns-in-4361
returns-in-4361 c = sort-between 0x1109 0x1109 tt (omega arith) (omega arith)

pub returns-in-4362 : goal.returns-in-4362
returns-in-4362 c = sort-between 0x110A 0x110A tt (omega arith) (omega arith)

pub returns-in-4365 : goal.returns-in-4365
returns-in-4365 c = sort-between 0x110D 0x110D tt (omega arith) (omega arith)

pub returns-in-4412 : goal.returns-in-4412
returns-in-4412 c = sort-between 0x113C 0x113C tt (omega arith) (omega arith)

pub returns-in-4413 : goal.returns-in-4413
returns-in-4413 c = sort-between 0x113D 0x113D tt (omega arith) (omega arith)

pub returns-in-4414 : goal.returns-in-4414
returns-in-4414 c = sort-between 0x113E 0x113E tt (omega arith) (omega arith)

pub returns-in-4415 : goal.returns-in-4415
returns-in-4415 c = sort-between 0x113F 0x113F tt (omega arith) (omega arith)

pub returns-in-4416 : goal.returns-in-4416
returns-in-4416 c = sort-between 0x1140 0x1140 tt (omega arith) (omega arith)

pub returns-in-4428 : goal.returns-in-4428
returns-in-4428 c = sort-between 0x114C 0x114C tt (omega arith) (omega arith)

pub returns-in-4429 : goal.returns-in-4429
returns-in-4429 c = sort-between 0x114D 0x114D tt (omega arith) (omega arith)

pub returns-in-4430 : goal.returns-in-4430
returns-in-4430 c = sort-between 0x114E 0x114E tt (omega arith) (omega arith)

pub returns-in-4431 : goal.returns-in-4431
returns-in-4431 c = sort-between 0x114F 0x114F tt (omega arith) (omega arith)

pub returns-in-4432 : goal.returns-in-4432
returns-in-4432 c = sort-between 0x1150 0x1150 tt (omega arith) (omega arith)

pub returns-in-4441 : goal.returns-in-4441
returns-in-4441 c = sort-between 0x1159 0x1159 tt (omega arith) (omega arith)

pub returns-in-4447 : goal.returns-in-4447
returns-in-4447 c = sort-between 0x115F 0x115F tt (omega arith) (omega arith)

pub returns-in-4448 : goal.returns-in-4448
returns-in-4448 c = sort-between 0x1160 0x1160 tt (omega arith) (omega arith)

pub returns-in-4449 : goal.returns-in-4449
returns-in-4449 c = sort-between 0x1161 0x1161 tt (omega arith) (omega arith)

pub returns-in-4450 : goal.returns-in-4450
returns-in-4450 c = sort-between 0x1162 0x1162 tt (omega arith) (omega arith)

pub returns-in-4451 : goal.returns-in-4451
returns-in-4451 c = sort-between 0x1163 0x1163 tt (omega arith) (omega arith)

pub returns-in-4452 : goal.returns-in-4452
returns-in-4452 c = sort-between 0x1164 0x1164 tt (omega arith) (omega arith)

pub returns-in-4453 : goal.returns-in-4453
returns-in-4453 c = sort-between 0x1165 0x1165 tt (omega arith) (omega arith)

pub returns-in-4454 : goal.returns-in-4454
returns-in-4454 c = sort-between 0x1166 0x1166 tt (omega arith) (omega arith)

pub returns-in-4455 : goal.returns-in-4455
returns-in-4455 c = sort-between 0x1167 0x1167 tt (omega arith) (omega arith)

pub returns-in-4456 : goal.returns-in-4456
returns-in-4456 c = sort-between 0x1168 0x1168 tt (omega arith) (omega arith)

pub returns-in-4457 : goal.returns-in-4457
returns-in-4457 c = sort-between 0x1169 0x1169 tt (omega arith) (omega arith)

pub returns-in-4468 : goal.returns-in-4468
returns-in-4468 c = sort-between 0x1174 0x1174 tt (omega arith) (omega arith)

pub returns-in-4469 : goal.returns-in-4469
returns-in-4469 c = sort-between 0x1175 0x1175 tt (omega arith) (omega arith)

pub returns-in-4510 : goal.returns-in-4510
returns-in-4510 c = sort-between 0x119E 0x119E tt (omega arith) (omega arith)

pub returns-in-4520 : goal.returns-in-4520
returns-in-4520 c = sort-between 0x11A8 0x11A8 tt (omega arith) (omega arith)

pub returns-in-4523 : goal.returns-in-4523
returns-in-4523 c = sort-between 0x11AB 0x11AB tt (omega arith) (omega arith)

pub returns-in-4537 : goal.returns-in-4537
returns-in-4537 c = sort-between 0x11B9 0x11B9 tt (omega arith) (omega arith)

pub returns-in-4538 : goal.returns-in-4538
returns-in-4538 c = sort-between 0x11BA 0x11BA tt (omega arith) (omega arith)

pub returns-in-4539 : goal.returns-in-4539
returns-in-4539 c = sort-between 0x11BB 0x11BB tt (omega arith) (omega arith)

pub returns-in-4587 : goal.returns-in-4587
returns-in-4587 c = sort-between 0x11EB 0x11EB tt (omega arith) (omega arith)

pub returns-in-4592 : goal.returns-in-4592
returns-in-4592 c = sort-between 0x11F0 0x11F0 tt (omega arith) (omega arith)

pub returns-in-4601 : goal.returns-in-4601
returns-in-4601 c = sort-between 0x11F9 0x11F9 tt (omega arith) (omega arith)

pub returns-in-4354-to-4355 : goal.returns-in-4354-to-4355
unfolding count sort_of class_of make_of within
returns-in-4354-to-4355 c = apart (ModernInitial Simple) 0x1100 4 refl c.in-4354-to-4355.in_default-own.rest (omega arith) (omega arith)

pub returns-in-4357-to-4359 : goal.returns-in-4357-to-4359
unfolding count sort_of class_of make_of within
returns-in-4357-to-4359 c = apart (ModernInitial Simple) 0x1104 4 refl c.in-4357-to-4359.in_default-own.rest (omega arith) (omega arith)

pub returns-in-4363-to-4364 : goal.returns-in-4363-to-4364
unfolding count sort_of class_of make_of within
returns-in-4363-to-4364 c = apart (ModernInitial Simple) 0x1108 5 refl c.in-4363-to-4364.in_default-own.rest (omega arith) (omega arith)

pub returns-in-4366-to-4370 : goal.returns-in-4366-to-4370
unfolding count sort_of class_of make_of within
returns-in-4366-to-4370 c = apart (ModernInitial Simple) 0x110D 6 refl c.in-4366-to-4370.in_default-own.rest (omega arith) (omega arith)

pub returns-in-4371-to-4411 : goal.returns-in-4371-to-4411
returns-in-4371-to-4411 c = sort-between 0x1113 0x113B tt (omega arith) (omega arith)

pub returns-in-4417-to-4427 : goal.returns-in-4417-to-4427
unfolding count sort_of class_of make_of within
returns-in-4417-to-4427 c = apart (OldInitial Cluster) 0x113C 16 refl c.in-4417-to-4427.in_default-own.rest (omega arith) (omega arith)

pub returns-in-4433-to-4435 : goal.returns-in-4433-to-4435
unfolding count sort_of class_of make_of within
returns-in-4433-to-4435 c = apart (OldInitial Cluster) 0x114C 8 refl c.in-4433-to-4435.in_default-own.rest (omega arith) (omega arith)

pub returns-in-4436-to-4437 : goal.returns-in-4436-to-4437
returns-in-4436-to-4437 c = sort-between 0x1154 0x1155 tt (omega arith) (omega arith)

pub returns-in-4438-to-4440 : goal.returns-in-4438-to-4440
returns-in-4438-to-4440 c = sort-between 0x1156 0x1158 tt (omega arith) (omega arith)

pub returns-in-4442-to-4446 : goal.returns-in-4442-to-4446
unfolding count sort_of class_of make_of within
returns-in-4442-to-4446 c = apart (OldInitial Cluster) 0x1159 6 refl c.in-4442-to-4446.in_default-own.rest (omega arith) (omega arith)

pub returns-in-4458-to-4460 : goal.returns-in-4458-to-4460
unfolding count sort_of class_of make_of within
returns-in-4458-to-4460 c = apart (ModernPeak Cluster) 0x115F 14 refl c.in-4458-to-4460.in_default-own.rest (omega arith) (omega arith)

pub returns-in-4461-to-4462 : goal.returns-in-4461-to-4462
returns-in-4461-to-4462 c = sort-between 0x116D 0x116E tt (omega arith) (omega arith)

pub returns-in-4463-to-4465 : goal.returns-in-4463-to-4465
returns-in-4463-to-4465 c = sort-between 0x116F 0x1171 tt (omega arith) (omega arith)

pub returns-in-4466-to-4467 : goal.returns-in-4466-to-4467
returns-in-4466-to-4467 c = sort-between 0x1172 0x1173 tt (omega arith) (omega arith)

pub returns-in-4470-to-4509 : goal.returns-in-4470-to-4509
unfolding count sort_of class_of make_of within
returns-in-4470-to-4509 c = apart (OldPeak Cluster) 0x1174 42 refl c.in-4470-to-4509.in_default-own.rest (omega arith) (omega arith)

pub returns-in-4511-to-4519 : goal.returns-in-4511-to-4519
unfolding count sort_of class_of make_of within
returns-in-4511-to-4519 c = apart (OldPeak Cluster) 0x119E 10 refl c.in-4511-to-4519.in_default-own.rest (omega arith) (omega arith)

pub returns-in-4521-to-4522 : goal.returns-in-4521-to-4522
unfolding count sort_of class_of make_of within
returns-in-4521-to-4522 c = apart (ModernFinal Cluster) 0x11A8 3 refl c.in-4521-to-4522.in_default-own.rest (omega arith) (omega arith)

pub returns-in-4524-to-4525 : goal.returns-in-4524-to-4525
unfolding count sort_of class_of make_of within
returns-in-4524-to-4525 c = apart (ModernFinal Cluster) 0x11AB 3 refl c.in-4524-to-4525.in_default-own.rest (omega arith) (omega arith)

pub returns-in-4526-to-4527 : goal.returns-in-4526-to-4527
returns-in-4526-to-4527 c = sort-between 0x11AE 0x11AF tt (omega arith) (omega arith)

pub returns-in-4528-to-4534 : goal.returns-in-4528-to-4534
returns-in-4528-to-4534 c = sort-between 0x11B0 0x11B6 tt (omega arith) (omega arith)

pub returns-in-4535-to-4536 : goal.returns-in-4535-to-4536
returns-in-4535-to-4536 c = sort-between 0x11B7 0x11B8 tt (omega arith) (omega arith)

pub returns-in-4540-to-4546 : goal.returns-in-4540-to-4546
unfolding count sort_of class_of make_of within
returns-in-4540-to-4546 c = apart (ModernFinal Simple) 0x11B9 10 refl c.in-4540-to-4546.in_default-own.rest (omega arith) (omega arith)

pub returns-in-4547-to-4586 : goal.returns-in-4547-to-4586
returns-in-4547-to-4586 c = sort-between 0x11C3 0x11EA tt (omega arith) (omega arith)

pub returns-in-4588-to-4591 : goal.returns-in-4588-to-4591
unfolding count sort_of class_of make_of within
returns-in-4588-to-4591 c = apart (OldFinal Cluster) 0x11EB 5 refl c.in-4588-to-4591.in_default-own.rest (omega arith) (omega arith)

pub returns-in-4593-to-4600 : goal.returns-in-4593-to-4600
unfolding count sort_of class_of make_of within
returns-in-4593-to-4600 c = apart (OldFinal Cluster) 0x11F0 9 refl c.in-4593-to-4600.in_default-own.rest (omega arith) (omega arith)

pub returns-in-4602-to-4607 : goal.returns-in-4602-to-4607
unfolding count sort_of class_of make_of within
returns-in-4602-to-4607 c = apart (OldFinal Cluster) 0x11F9 7 refl c.in-4602-to-4607.in_default-own.rest (omega arith) (omega arith)

pub returns-in-43360-to-43388 : goal.returns-in-43360-to-43388
returns-in-43360-to-43388 c = sort-between 0xA960 0xA97C tt (omega arith) (omega arith)

pub returns-in-55216-to-55238 : goal.returns-in-55216-to-55238
returns-in-55216-to-55238 c = sort-between 0xD7B0 0xD7C6 tt (omega arith) (omega arith)

pub returns-in-55243-to-55291 : goal.returns-in-55243-to-55291
returns-in-55243-to-55291 c = sort-between 0xD7CB 0xD7FB tt (omega arith) (omega arith)

pub returns-in_default-code-2 : goal.returns-in_default-code-2
returns-in_default-code-2 c = sort-between 0x1200 0xA95F tt (omega arith) (omega arith)

pub returns-in_default-code-3 : goal.returns-in_default-code-3
returns-in_default-code-3 c = elim c.in_default.branch [
  | in_default-via-then-code-lt44032 w ↦ sort-between 0xA97D 0xABFF tt (omega arith) (omega arith)
  | in_default-via-else-code-lt44032+else-code-lt55204 w ↦ sort-between 0xD7A4 0xD7AF tt (omega arith) (omega arith)
]

pub returns-in_default-code-4 : goal.returns-in_default-code-4
returns-in_default-code-4 c = sort-between 0xD7C7 0xD7CA tt (omega arith) (omega arith)

pub returns-in_default-code-5 : goal.returns-in_default-code-5
returns-in_default-code-5 c = sort-between 0xD7FC 0xFFFFFFFF tt (omega arith) (omega arith)
