-- `ranking::order::compared` meets its contract: std's `cmp` of two numbers is their order by value.
use Rattle.ranking.proofs.Orders.{value-compared}
use Rattle.ranking.proofs.order.compared.Goals as goal

pub returns : goal.returns
returns c = value-compared _ _ _ c.cmp.ensures
