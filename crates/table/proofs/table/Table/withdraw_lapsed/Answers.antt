use Rattle.std.proofs.Common.{rules, tests}
use Rattle.rules.specs.declared.order.Order.{Order}
use Rattle.rules.specs.Steps.{lapses}
use Rattle.table.proofs.table.Table.withdraw_lapsed.Goals as goal

pub returns-clause-orders : goal.returns-clause-orders
returns-clause-orders c = c.withdraw.ensures.orders (λ (o : Order). lapses c.args.hours c.args.today o.lifetime) (λ o b k. search (rules, tests))
