use Rattle.std.proofs.Common.{◌≤◌, length, sym, subst}
use Rattle.rules.specs.Trades.{Step}
use Rattle.table.specs.Tables.{open_orders}
use Rattle.table.proofs.Fit.{table_book}
use Rattle.matching.proofs.Entering.{room_stays, allowed_length}
use Rattle.matching.proofs.floor.Floor.enter.Goals as goal

pub set_rest-requires-clause-room : goal.set_rest-requires-clause-room
set_rest-requires-clause-room g c =
    let e = c.args.e in
    let os = open_orders c.args.self.now.table in
    let fewer = allowed_length (g.P.Policy.rule c.args.policy.now) (g.met.P.Policy.fair c.args.policy.now) e os (table_book c.args.self.now.table) in
    room_stays e.limit os (open_orders c.trade_allowed.new.self.table) (subst (λ (x : Step). length x.orders ≤ length os) (sym c.trade_allowed.ensures.exact) fewer) c.requires.room
