use Rattle.std.proofs.Common.{ℕ, Bool, List, filter, ap, ◌∙◌, rules, tests}
use Rattle.std.specs.List.{reduce}
use Rattle.std.proofs.lemmas.Iterator.{YieldsList-from_slice}
use Rattle.std.proofs.lemmas.Iterator.Consumers.{YieldsList-at, YieldsList-from_filter, YieldsList-from_filter_map}
use Rattle.rules.specs.Orders.{limit_of}
use Rattle.table.specs.Tables.{open_orders}
use Rattle.matching.specs.Best.{better_of}
use Rattle.matching.specs.Spans.{spans}
use Rattle.matching.proofs.Chains.{reduced, prices_are}
use Rattle.matching.proofs.Ranks.{best_price}
use Rattle.matching.proofs.span.Span.best.Goals as goal

pub returns : goal.returns
returns c =
    let os = open_orders c.args.table.now in
    let s = c.args.self.side in
    let t : ℕ → Bool = spans c.args.self in
    reduced _ (better_of s) c.reduce.result c.reduce.ensures.ran (YieldsList-from_filter _ t (YieldsList-at c.filter.ensures.source (YieldsList-from_filter_map _ (limit_of s) (YieldsList-from_slice os cc) c.filter_map.ensures.closure (λ x r q k. search (rules, tests)))) c.filter.ensures.closure (λ x r q k. search (rules, tests))) (λ a x b q k. search (rules, tests))
    ∙ ap (λ (xs : List ℕ). reduce (better_of s) (filter t xs)) (prices_are s os)
    ∙ best_price s t os
