use Rattle.std.proofs.Common.{unwrap_or, sym, ap, ◌∙◌, rules, tests}
use Rattle.std.proofs.lemmas.Iterator.{YieldsList-from_slice, YieldsList-from_map}
use Rattle.std.proofs.lemmas.Iterator.Adapters.{option_map_id}
use Rattle.std.proofs.lemmas.Iterator.Consumers.{YieldsList-at, YieldsList-from_filter_map, max_from_yields_List}
use Rattle.rules.specs.declared.order.Side.TheVariants.{Bid}
use Rattle.rules.specs.Orders.{limit_of}
use Rattle.rules.specs.Price.{most_of, tradable}
use Rattle.rules.proofs.Volumes.{volume_among_bids}
use Rattle.table.specs.Tables.{open_orders}
use Rattle.table.proofs.Fit.{table_book}
use Rattle.matching.proofs.Chains.{prices_are, most_is}
use Rattle.matching.proofs.pricing.volume.Goals as goal

pub returns : goal.returns
returns c =
    let os = open_orders c.args.table.now in
    c.unwrap_or.ensures
    ∙ ap (λ o. unwrap_or o 0)
    (sym (option_map_id c.max.result)
    ∙ max_from_yields_List c.map.result c.max.result c.max.ensures.ran (YieldsList-from_map _ (tradable os) (YieldsList-at c.map.ensures.source (YieldsList-from_filter_map _ (limit_of Bid) (YieldsList-from_slice os cc) c.filter_map.ensures.closure (λ x r q k. search (rules, tests)))) c.map.ensures.closure (λ x r q k. search (rules, tests))))
    ∙ most_is (tradable os) _
    ∙ ap (most_of (tradable os)) (prices_are Bid os)
    ∙ sym (volume_among_bids os (table_book c.args.table.now).sound)
