use Rattle.std.proofs.Common.{◌≡◌, length, ap, arith, rules}
use Rattle.rules.specs.declared.order.Side.TheVariants.{Bid, Offer}
use Rattle.rules.specs.declared.tape.Terms.TheVariants.{Opening}
use Rattle.rules.specs.Orders.{level}
use Rattle.rules.specs.Trades.{Step}
use Rattle.rules.specs.Opening.{cross}
use Rattle.table.specs.Tables.{open_orders}
use Rattle.table.proofs.Fit.{table_book}
use Rattle.matching.specs.Steps.{step_of}
use Rattle.matching.proofs.Counts.{fill_lines}
use Rattle.matching.proofs.Stages.{both_levels, level_after, cross_lines}
use Rattle.matching.proofs.floor.Floor.cross.Goals as goal

pub trade_level-requires : goal.trade_level-requires
trade_level-requires g c =
    let t = c.args.self.now.table in
    omega (arith, c.requires, both_levels c.args.kind (open_orders t), (table_book t).few)

pub trade_level-requires-2 : goal.trade_level-requires-2
trade_level-requires-2 g c =
    let m = step_of c.args.self.now in
    let rule = g.P.Policy.rule c.args.policy.now in
    let fair = g.met.P.Policy.fair c.args.policy.now in
    let v = c.lesser-lots.result in
    let k = c.args.kind in
    let e = c.trade_level.ensures.exact in
    omega (
      arith,
      c.requires,
      both_levels k m.orders,
      (table_book c.args.self.now.table).few,
      ap (λ (z : Step). length z.tape) e,
      ap (λ (z : Step). length (level Offer k z.orders)) e,
      fill_lines rule fair Bid v m (table_book c.args.self.now.table) c.args.price k,
      level_after rule (Opening c.args.price) Bid Offer v k m,
    )

pub returns-clause-lines : goal.returns-clause-lines
returns-clause-lines g c =
    let m = step_of c.args.self.now in
    let rule = g.P.Policy.rule c.args.policy.now in
    let k = c.args.kind in
    let exact : step_of c.trade_level-2.new.self ≡ cross rule c.args.price k m = search rules in
    omega (arith, ap (λ (z : Step). length z.tape) exact, cross_lines rule (g.met.P.Policy.fair c.args.policy.now) c.args.price k m (table_book c.args.self.now.table))
