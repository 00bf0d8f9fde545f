use Rattle.std.proofs.Common.{min, filter, ap, ◌∙◌, rules, tests}
use Rattle.std.proofs.lemmas.Iterator.{YieldsList-from_slice}
use Rattle.std.proofs.lemmas.Iterator.Consumers.{YieldsList-at, YieldsList-from_filter, YieldsList-from_filter_map, fold_from_yields_List}
use Rattle.rules.specs.Limits.{highest_price}
use Rattle.rules.specs.Orders.{limit_of}
use Rattle.rules.specs.Price.{lowest}
use Rattle.table.specs.Tables.{open_orders}
use Rattle.matching.proofs.Chains.{prices_are, lowest_is}
use Rattle.matching.proofs.pricing.lowest.Goals as goal

pub returns : goal.returns
returns g c = λ test tells.
    let os = open_orders c.args.table.now in
    fold_from_yields_List _ min highest_price _ c.fold.ensures.ran (YieldsList-from_filter _ test (YieldsList-at c.filter.ensures.source (YieldsList-from_filter_map _ (limit_of c.args.side) (YieldsList-from_slice os cc) c.filter_map.ensures.closure (λ x r q k. search (rules, tests)))) c.filter.ensures.closure (λ x r q k. search (rules, tests, tells))) (λ a x b q k. search (rules, tests))
    ∙ lowest_is (filter test _)
    ∙ ap (λ xs. lowest (filter test xs)) (prices_are c.args.side os)
