use Rattle.std.proofs.Common.{rules, tests}
use Rattle.rules.specs.Lines.{drops}
use Rattle.table.proofs.table.Table.withdraw_line.Goals as goal

pub returns-clause-orders : goal.returns-clause-orders
returns-clause-orders c = c.withdraw.ensures.orders (drops c.args.id) (λ o b k. search (rules, tests))
