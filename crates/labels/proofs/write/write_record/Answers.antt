-- `labels::write::write_record` meets its contract: the checks refuse, or an ill-formed label is
-- refused; else the bytes to be stored decide.
use Rattle.std.proofs.lemmas.Result.{err_from_is_err_and}
use mathlib.Core.Path.{sym}
use native.Mathlib.Omega.{arith}
use Rattle.labels.proofs.Storing.{stored-taken, stored-inside, writes-refused, writes-ill, writes-given, writes-joined}
use Rattle.labels.proofs.write.write_record.Goals as goal

pub returns-then-first_ill-label : goal.returns-then-first_ill-label
returns-then-first_ill-label c = writes-ill _ _ _ _ _ c.args.label.now
    (sym c.in_ok-check_places.ensures)
    c.first_ill.ensures (omega (arith, c.if-first_ill-label.true))

pub store_given-requires : goal.store_given-requires
store_given-requires c = stored-inside _ _ _ (sym c.in_ok-check_places.ensures)

pub store_joined-requires : goal.store_joined-requires
store_joined-requires c = let taken = sym c.in_ok-check_places.ensures in record { number_in_bounds = stored-inside _ _ _ taken; label_value = stored-taken _ _ _ taken }

pub returns-in-AsGiven : goal.returns-in-AsGiven
returns-in-AsGiven c = writes-given _ _ _ _ _ c.args.label.now
    (sym c.in_ok-check_places.ensures)
    c.first_ill.ensures (omega (arith, c.if-first_ill-label.false)) c.in-AsGiven.is
    c.store_given.result c.store_given.ensures

pub returns-in-Joined : goal.returns-in-Joined
returns-in-Joined c = writes-joined _ _ _ _ _ c.args.label.now
    (sym c.in_ok-check_places.ensures)
    c.first_ill.ensures (omega (arith, c.if-first_ill-label.false)) c.in-Joined.is
    c.store_joined.result c.store_joined.ensures

pub returns-in_err-check_places : goal.returns-in_err-check_places
returns-in_err-check_places c =
    let p = err_from_is_err_and c.from_residual.result c.from_residual.ensures.1 in
    rw (p.1, p.2) (writes-refused _ _ _ _ _ _ c.check_places.ensures c.in_err-check_places.was)
