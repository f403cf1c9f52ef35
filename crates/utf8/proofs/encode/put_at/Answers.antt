-- `utf8::encode::put_at` meets its contract: no room, no code point, or put as is.
use Rattle.utf8.proofs.Writing.{bytes-least}
use Rattle.utf8.specs.Utf8.{form8}
use Rattle.encodings.proofs.Texts.{code_fits, code-lacks, code-over}
use Rattle.laws.proofs.Filling.{wrote_none}
use native.Mathlib.Omega.{arith}
use Rattle.utf8.proofs.encode.put_at.Goals as goal

pub returns-then-out-at : goal.returns-then-out-at
returns-then-out-at c = wrote_none (code-lacks form8 _ _ _ (omega (arith, c.if-out-at.true, bytes-least c.args.code)))

pub returns-then-out-at-2 : goal.returns-then-out-at-2
returns-then-out-at-2 c = wrote_none (code-lacks form8 _ _ _ (omega (arith, c.if-out-at-2.true, c.size_of.ensures, c.if-out-at.false)))

pub returns-then-code-gt1114111 : goal.returns-then-code-gt1114111
returns-then-code-gt1114111 c = wrote_none (code-over form8 _ _ _ c.if-code-gt1114111.true)

pub put-requires : goal.put-requires
put-requires c = record {
  code_bound = omega (arith, c.if-code-gt1114111.false);
  room = record {
    fits = omega
        (arith, c.if-out-at-2.false, c.size_of.ensures, c.if-out-at.false);
  };
}

pub returns : goal.returns
returns c = rw (code_fits form8 c.args.code
    c.args.out.now
    c.args.at c.if-code-gt1114111.false
    (omega (
      arith,
      c.if-out-at-2.false,
      c.size_of.ensures,
      c.if-out-at.false,
    ))) c.put.ensures
