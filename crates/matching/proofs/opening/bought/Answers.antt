use Rattle.std.proofs.Common.{◌≡◌, ◌<◌, ◌^◌, List, sum_by, filter, refl, sym, ◌∙◌, arith, rules, tests}
use Rattle.std.proofs.lemmas.Iterator.{YieldsList-from_slice, YieldsList-from_map}
use Rattle.std.proofs.lemmas.Iterator.Consumers.{YieldsList-at, YieldsList-from_filter, sum_by_from_yields_List, fits_by_from_yields_list}
use Rattle.rules.specs.declared.order.Side.TheVariants.{Bid}
use Rattle.rules.specs.declared.tape.TapeLine.{TapeLine}
use Rattle.rules.specs.Sides.{is}
use Rattle.rules.specs.Trades.{lined}
use Rattle.table.specs.Tables.{tape_lines}
use Rattle.matching.proofs.Chains.{kept_sum}
use Rattle.matching.proofs.opening.bought.Goals as goal

total : (ls : List TapeLine) → lined (λ n s. is Bid s) ls ≡ sum_by (λ l. l.lots) (filter (λ l. is Bid l.side) ls)
total ls = kept_sum (lined (λ n s. is Bid s)) (λ l. is Bid l.side) (λ l. l.lots) refl (λ _ _. refl) ls

pub sum-requires-clause-fits : goal.sum-requires-clause-fits
sum-requires-clause-fits c =
    let ls = tape_lines c.args.tape.now in
    let fits : sum_by (λ (l : TapeLine). l.lots) (filter (λ l. is Bid l.side) ls) < 2 ^ 32 = omega (arith, total ls, c.requires) in
    fits_by_from_yields_list _ _ c.map.result _ (YieldsList-from_map _ (λ l. l.lots) (YieldsList-at c.map.ensures.source (YieldsList-from_filter _ (λ l. is Bid l.side) (YieldsList-from_slice ls cc) c.filter.ensures.closure (λ x r q k. search (rules, tests)))) c.map.ensures.closure (λ x r q k. search (rules, tests))) fits

pub returns : goal.returns
returns c =
    let ls = tape_lines c.args.tape.now in
    sum_by_from_yields_List _ _ c.map.result _ c.sum.ensures.ran (YieldsList-from_map _ (λ l. l.lots) (YieldsList-at c.map.ensures.source (YieldsList-from_filter _ (λ l. is Bid l.side) (YieldsList-from_slice ls cc) c.filter.ensures.closure (λ x r q k. search (rules, tests)))) c.map.ensures.closure (λ x r q k. search (rules, tests)))
    ∙ sym (total ls)
