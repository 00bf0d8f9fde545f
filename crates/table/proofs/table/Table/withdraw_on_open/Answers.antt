use Rattle.std.proofs.Common.{rules, tests}
use Rattle.rules.specs.Orders.{on_open}
use Rattle.table.proofs.table.Table.withdraw_on_open.Goals as goal

pub returns-clause-orders : goal.returns-clause-orders
returns-clause-orders c = c.withdraw.ensures.orders on_open (λ o b k. search (rules, tests))
