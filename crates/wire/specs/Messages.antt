-- The eight numbers of a call and the four of an answer (docs/CALLS.md, 'The wire form').
use Rattle.std.specs.Prelude.{List, [], ◌∷◌, ℕ, ◌%◌, Result, Ok, Err}
use Rattle.laws.specs.Lists.{each}
use Rattle.answers.specs.Answers.{told}
use Rattle.answers.specs.declared.refusal.Refusal.{Refusal}
use Rattle.wire.specs.Numbers.{low_first, number_at}
use Rattle.wire.specs.declared.head.Head.{Head}
use Rattle.wire.specs.declared.reply.Reply.{Reply}

-- the head of a call, of its 32 bytes: a number that is not there is 0
abbrev pub head_of : List ℕ → Head
head_of bytes = record {
  kind = number_at bytes 0;
  x = number_at bytes 1;
  y = number_at bytes 2;
  z = number_at bytes 3;
  w = number_at bytes 4;
  room = number_at bytes 5;
  first = number_at bytes 6;
  second = number_at bytes 7;
}

-- a length or a place as a number of 32 bits, which all that come here are
unfoldable pub short : ℕ → ℕ
short n = n % 0x100000000

-- the answer of a call that is done, and of one that is refused
abbrev pub done_reply : ℕ → ℕ → ℕ → Reply
done_reply value second third = record { refusal = 0; value = value; second = second; third = third }

abbrev pub refused_reply : Refusal → Reply
refused_reply r = record { refusal = (told r).number; value = short (told r).place; second = 0; third = 0 }

-- and of one that fills a buffer
abbrev pub filled_reply : Result ℕ Refusal → Reply
filled_reply (Ok size) = done_reply (short size) 0 0
filled_reply (Err r) = refused_reply r

-- the four numbers of an answer as bytes
unfoldable pub reply_bytes : Reply → List ℕ
reply_bytes r = each low_first (r.refusal ∷ r.value ∷ r.second ∷ r.third ∷ [])
