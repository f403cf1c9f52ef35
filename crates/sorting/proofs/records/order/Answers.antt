-- `sorting::records::order` meets its contract: what is refused before 3, no room, or the order.
use mathlib.Core.Path.{sym}
use Rattle.std.proofs.lemmas.Result.{err_from_is_err_and}
use Rattle.answers.proofs.Checks.{no-room-kept}
use Rattle.sorting.proofs.Ordering.{records-taken, records-count, orders-refused, orders-room, orders-done}
use Rattle.sorting.proofs.records.order.Goals as goal

pub returns-in_err-count : goal.returns-in_err-count
returns-in_err-count c =
    let p = err_from_is_err_and c.from_residual.result c.from_residual.ensures.1 in
    rw (p.1, p.2) (orders-refused _ c.read_image.ensures _ c.in_err-count.was)

pub returns-in_err-check_room : goal.returns-in_err-check_room
returns-in_err-check_room c =
    let p = err_from_is_err_and c.from_residual-in_err-check_room.result c.from_residual-in_err-check_room.ensures.1 in
    rw (p.1, p.2) (orders-room _ c.read_image.ensures c.in_ok-count.was _ c.check_room.ensures c.in_err-check_room.was)

pub order_into-requires : goal.order_into-requires
order_into-requires c = let image = c.read_image.ensures in
    let records = c.in_ok-count.was in
    record { count_value = records-count _ image records; image_value = records-taken _ image records; count_in_bounds = no-room-kept _ _ (sym c.in_ok-check_room.ensures) }

pub returns : goal.returns
returns c = orders-done _ c.read_image.ensures
    c.in_ok-count.was _ (no-room-kept _ _ (sym c.in_ok-check_room.ensures)) c.order_into.ensures
