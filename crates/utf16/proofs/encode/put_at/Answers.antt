-- `utf16::encode::put_at` meets its contract: no room, no code point, or put as is.
use Rattle.utf16.proofs.Writing.{units-least}
use Rattle.utf16.specs.Utf16.{form16}
use Rattle.encodings.proofs.Texts.{code_fits, code-lacks, code-over}
use Rattle.laws.proofs.Filling.{wrote_none}
use native.Mathlib.Omega.{arith}
use Rattle.utf16.proofs.encode.put_at.Goals as goal

pub returns-then-out-at : goal.returns-then-out-at
returns-then-out-at c = wrote_none (code-lacks form16 _ _ _ (omega (arith, c.if-out-at.true, units-least c.args.code)))

pub returns-then-out-at-2 : goal.returns-then-out-at-2
returns-then-out-at-2 c = wrote_none (code-lacks form16 _ _ _ (omega (arith, c.if-out-at-2.true, c.size_of.ensures, c.if-out-at.false)))

pub returns-then-code-gt1114111 : goal.returns-then-code-gt1114111
returns-then-code-gt1114111 c = wrote_none (code-over form16 _ _ _ c.if-code-gt1114111.true)

pub put-requires : goal.put-requires
put-requires c = record {
  code_bound = omega (arith, c.if-code-gt1114111.false);
  room = record {
    fits = omega
        (arith, c.if-out-at-2.false, c.size_of.ensures, c.if-out-at.false);
  };
}

pub returns : goal.returns
returns c = rw (code_fits form16 c.args.code
    c.args.out.now
    c.args.at c.if-code-gt1114111.false
    (omega (
      arith,
      c.if-out-at-2.false,
      c.size_of.ensures,
      c.if-out-at.false,
    ))) c.put.ensures
