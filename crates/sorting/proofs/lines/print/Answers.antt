-- `sorting::lines::print` meets its contract: the order is refused, or its lines have no room, or
-- they are written.
use mathlib.Core.Path.{sym}
use native.Mathlib.Omega.{arith}
use lib.Seq.{length-take-le}
use Rattle.std.proofs.lemmas.Result.{err_from_is_err_and}
use Rattle.answers.proofs.Checks.{no-room-kept}
use Rattle.sorting.proofs.Printed.{numbers-inside, numbers-short, numbers-most, prints-refused, prints-lacking, prints-done}
use Rattle.sorting.proofs.Sorted.{order-right, order-length}
use Rattle.sorting.proofs.lines.print.Goals as goal

pub slice_bounds-numbers-end : goal.slice_bounds-numbers-end
slice_bounds-numbers-end c = numbers-inside _ (order-length _) (omega arith) c.order.ensures c.in_ok-count.was

pub slice_bounds-sorted-end : goal.slice_bounds-sorted-end
slice_bounds-sorted-end c = sym (length-take-le _ _ (numbers-inside _ (order-length _) (omega arith) c.order.ensures c.in_ok-count.was))

pub check_lines_room-requires : goal.check_lines_room-requires
check_lines_room-requires c = let ordered = c.order.ensures in
    let found = c.in_ok-count.was in
    let inside = numbers-inside _ (order-length _) (omega arith) ordered found in
    record { count_bound = omega (arith, length-take-le _ _ inside, numbers-most _ (order-length _) (omega arith) ordered found); size_bound = numbers-short _ (order-length _) (omega arith) ordered found (order-right _) }

pub put_lines-requires : goal.put_lines-requires
put_lines-requires c = no-room-kept _ _ (sym c.in_ok-check_lines_room.ensures)

pub returns-in_err-count : goal.returns-in_err-count
returns-in_err-count c =
    let p = err_from_is_err_and c.from_residual.result c.from_residual.ensures.1 in
    rw (p.1, p.2) (prints-refused _ (order-length _) (omega arith) c.order.ensures _ c.in_err-count.was _)

pub returns-in_err-check_lines_room : goal.returns-in_err-check_lines_room
returns-in_err-check_lines_room c =
    let p = err_from_is_err_and c.from_residual-in_err-check_lines_room.result c.from_residual-in_err-check_lines_room.ensures.1 in
    rw (p.1, p.2) (prints-lacking _ (order-length _) (omega arith) c.order.ensures c.in_ok-count.was _ c.check_lines_room.ensures c.in_err-check_lines_room.was)

pub returns : goal.returns
returns c = prints-done _ (order-length _) (omega arith) c.order.ensures c.in_ok-count.was _
    c.check_lines_room.ensures c.in_ok-check_lines_room.was c.put_lines.ensures
