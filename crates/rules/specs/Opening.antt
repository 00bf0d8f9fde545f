-- The three stages of an opening.
use Rattle.std.specs.Prelude.{ℕ, min, not, List, [], map, Some, None, filter, Option}
use Rattle.policy.specs.Fair.{Rule}
use Rattle.rules.specs.declared.order.Side.TheVariants.{Bid, Offer}
use Rattle.rules.specs.declared.order.Kind.{Kind}
use Rattle.rules.specs.declared.order.Kind.TheVariants.{Limit, OnOpen}
use Rattle.rules.specs.declared.order.Order.{Order}
use Rattle.rules.specs.declared.tape.TapeLine.{TapeLine}
use Rattle.rules.specs.declared.tape.Terms.TheVariants.{Opening}
use Rattle.rules.specs.Sides.{is}
use Rattle.rules.specs.Orders.{held, at, on_open}
use Rattle.rules.specs.Price.{volume, price_at}
use Rattle.rules.specs.Trades.{Step, fill, serve, levels, lined}

-- v lots of the limit orders trade, bids with offers, the better price first.
abbrev pub stage_one : Rule → ℕ → ℕ → Step → Step
stage_one rule p v m = serve rule (Opening p) Offer v (levels Offer m.orders) (serve rule (Opening p) Bid v (levels Bid m.orders) m)

-- The bids and the offers of one level trade, as many lots as the lesser side holds.
abbrev pub lesser : Kind → List Order → ℕ
lesser k os = min (held (at Bid k) os) (held (at Offer k) os)

abbrev pub cross : Rule → ℕ → Kind → Step → Step
cross rule p k m = fill rule (Opening p) Offer (lesser k m.orders) k (fill rule (Opening p) Bid (lesser k m.orders) k m)

-- What is left of the On-Open orders becomes limit orders at p, in place.
abbrev pub limit_at : ℕ → Kind → Kind
limit_at p (Limit x) = Limit x
limit_at p OnOpen = Limit p

abbrev pub turn : ℕ → Order → Order
turn p o = record { number = o.number; id = o.id; side = o.side; kind = limit_at p o.kind; lots = o.lots; lifetime = o.lifetime }

abbrev pub turned : ℕ → Step → Step
turned p m = record { orders = map (turn p) m.orders; tape = m.tape }

-- Stage two crosses the On-Open orders; stage three turns what is left of them and crosses the level at p. No two limit
-- orders could trade there before (the law PriceLiesBetween says so), so all that trades in stage three trades with a turned order.
abbrev pub stages : Rule → ℕ → ℕ → List Order → Step
stages rule p v os = cross rule p (Limit p) (turned p (cross rule p OnOpen (stage_one rule p v (record { orders = os; tape = [] }))))

pub record Opened : Type 0 where
  pub orders : List Order
  pub tape : List TapeLine
  pub volume : ℕ
  pub total : ℕ
  pub withdrawn : ℕ
  pub price : Option ℕ

-- Without a price every On-Open order is withdrawn. The total is the lots bought.
abbrev pub opened_at : Rule → List Order → ℕ → Option ℕ → Opened
opened_at rule os v None = record {
  orders = filter (λ o. not (on_open o)) os;
  tape = [];
  volume = v;
  total = 0;
  withdrawn = held on_open os;
  price = None;
}
opened_at rule os v (Some p) = record {
  orders = (stages rule p v os).orders;
  tape = (stages rule p v os).tape;
  volume = v;
  total = lined (λ n s. is Bid s) (stages rule p v os).tape;
  withdrawn = 0;
  price = Some p;
}

abbrev pub opened : Rule → List Order → Opened
opened rule os = opened_at rule os (volume os) (price_at (volume os) os)
