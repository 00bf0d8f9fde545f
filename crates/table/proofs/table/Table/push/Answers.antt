use Rattle.std.proofs.Common.{arith}
use Rattle.table.specs.Tables.{open_orders}
use Rattle.table.proofs.Fit.{fit_push}
use Rattle.table.proofs.table.Table.push.Goals as goal

pub invariant_of-self : goal.invariant_of-self
invariant_of-self c = record {
  within = omega (arith, c.push.ensures.len);
  fit = rw c.push.ensures.items (fit_push (open_orders c.args.self.now) c.args.o c.args.self.now.fit c.requires.fit);
}
