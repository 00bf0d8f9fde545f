use Rattle.std.proofs.Common.{◌≡◌, true, ltb, ap, ◌∙◌, arith, rules}
use Rattle.std.proofs.lemmas.Bool.{lt-ltb}
use Rattle.rules.specs.declared.order.Side.TheVariants.{Bid, Offer}
use Rattle.rules.specs.Orders.{prices}
use Rattle.rules.specs.Price.{highest, lowest}
use Rattle.table.specs.Tables.{open_orders}
use Rattle.matching.proofs.Chains.{all_kept}
use Rattle.matching.proofs.pricing.price_untraded.Goals as goal

pub returns : goal.returns
returns c =
    let os = open_orders c.args.table.now in
    let some-bids : ltb 0 c.args.bids ≡ true = lt-ltb 0 c.args.bids (omega arith) in
    let some-offers : ltb 0 c.args.offers ≡ true = lt-ltb 0 c.args.offers (omega arith) in
    let bid : c.highest-bid.result ≡ highest (prices Bid os) = c.highest-bid.ensures (λ x. true) (λ x b k. search rules) ∙ ap highest (all_kept (prices Bid os)) in
    let offer : c.lowest.result ≡ lowest (prices Offer os) = c.lowest.ensures (λ x. true) (λ x b k. search rules) ∙ ap lowest (all_kept (prices Offer os)) in
    let middle = c.middle.ensures in
    rw (some-bids, some-offers) (cc)
