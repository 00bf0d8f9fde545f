use Rattle.std.proofs.Common.{arith}
use Rattle.table.specs.Tables.{open_orders}
use Rattle.table.proofs.Fit.{fit_take}
use Rattle.table.proofs.table.Table.truncate.Goals as goal

pub invariant_of-self : goal.invariant_of-self
invariant_of-self c = record {
  within = omega (arith, c.truncate.ensures.len, c.args.self.now.within);
  fit = rw c.truncate.ensures.items (fit_take c.args.n (open_orders c.args.self.now) c.args.self.now.fit);
}
