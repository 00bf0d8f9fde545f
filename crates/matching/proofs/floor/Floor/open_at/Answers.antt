use Rattle.std.proofs.Common.{◌≡◌, ℕ, ◌+◌, ◌&&◌, Some, Option, sym, ap, ◌∙◌, arith}
use Rattle.rules.specs.declared.order.Side.TheVariants.{Bid, Offer}
use Rattle.rules.specs.declared.order.Order.{Order}
use Rattle.rules.specs.Sides.{is}
use Rattle.rules.specs.Orders.{held, on_open}
use Rattle.rules.specs.Trades.{Step, lined}
use Rattle.rules.specs.Opening.{opened_at}
use Rattle.rules.proofs.Held.{held_fits}
use Rattle.table.specs.Tables.{open_orders}
use Rattle.table.proofs.Fit.{table_book}
use Rattle.matching.specs.Answers.{answer_of}
use Rattle.matching.proofs.Stages.{price_is, price_within, bought_few, withdrawn_both}
use Rattle.matching.proofs.floor.Floor.open_at.Goals as goal

pub trade_opening-requires-clause-within : goal.trade_opening-requires-clause-within
trade_opening-requires-clause-within g c =
    let t = c.args.self.now.table in
    let found = sym c.requires.price ∙ c.in-Some.is in
    price_within (open_orders t) (table_book t) c.in-Some.p (price_is (open_orders t) c.args.lots (Some c.in-Some.p) c.requires.volume found)

pub bought-requires : goal.bought-requires
bought-requires g c =
    let t = c.args.self.now.table in
    let found = sym c.requires.price ∙ c.in-Some.is in
    let few = bought_few (g.P.Policy.rule c.args.policy.now) (g.met.P.Policy.fair c.args.policy.now) (open_orders t) (table_book t) c.args.lots c.in-Some.p c.requires.volume found in
    omega (arith, few, ap (λ (m : Step). lined (λ n s. is Bid s) m.tape) c.trade_opening.ensures)

-- The lots withdrawn are those of On-Open bids and of On-Open offers.
pub overflow_add-result : goal.overflow_add-result
overflow_add-result g c =
    let t = c.args.self.now.table in
    let os = open_orders t in
    omega (
      arith,
      ap (λ (r : ℕ × ℕ). r.0) c.withdraw_on_open-bids.ensures.lots,
      ap (λ (r : ℕ × ℕ). r.1) c.withdraw_on_open-bids.ensures.lots,
      held_fits (λ (o : Order). is Bid o.side && on_open o) os (table_book t),
      held_fits (λ (o : Order). is Offer o.side && on_open o) os (table_book t),
    )

pub returns-in-None-clause-answer : goal.returns-in-None-clause-answer
returns-in-None-clause-answer g c =
    let os = open_orders c.args.self.now.table in
    let v = c.args.lots in
    let found = ap (λ (o : Option ℕ). opened_at (g.P.Policy.rule c.args.policy.now) os v o) c.in-None.is in
    let both : c.withdraw_on_open-bids.result.0 + c.withdraw_on_open-bids.result.1 ≡ held on_open os = ap (λ (r : ℕ × ℕ). r.0 + r.1) c.withdraw_on_open-bids.ensures.lots ∙ sym (withdrawn_both os) in
    (λ i. record { volume = v; total = 0; withdrawn = both i; price = c.in-None.is i }) ∙ sym (ap answer_of found)
