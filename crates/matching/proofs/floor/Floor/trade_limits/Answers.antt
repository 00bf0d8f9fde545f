use Rattle.std.proofs.Common.{◌≤◌, length, ap, arith}
use Rattle.rules.specs.declared.order.Side.TheVariants.{Bid}
use Rattle.rules.specs.Orders.{prices}
use Rattle.table.proofs.Fit.{table_book}
use Rattle.matching.specs.Steps.{step_of}
use Rattle.matching.proofs.Stages.{two_walks, one_lines}
use Rattle.matching.proofs.floor.Floor.trade_limits.Goals as goal

pub returns : goal.returns
returns g c =
    let t = c.args.self.now.table in
    let rule = g.P.Policy.rule c.args.policy.now in
    let fair = g.met.P.Policy.fair c.args.policy.now in
    let m = step_of c.args.self.now in
    let n = step_of c.walk.new.self in
    let k = step_of c.walk-2.new.self in
    let first : length n.tape ≤ length (prices Bid m.orders) = omega (arith, c.walk.ensures.lines, ap length c.requires) in
    record {
      exact = two_walks rule fair c.args.price c.args.lots m n k (table_book t) c.walk.ensures.exact c.walk-2.ensures.exact;
      lines = one_lines rule fair c.args.price c.args.lots m n k (table_book t) c.walk.ensures.exact c.walk-2.ensures.exact first c.walk-2.ensures.lines;
    }
