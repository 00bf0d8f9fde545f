-- The levels of one side at some prices.
use Rattle.std.specs.Prelude.{ℕ, Bool, List, map, Some, None, filter, Option}
use Rattle.rules.specs.declared.order.Kind.{Kind}
use Rattle.rules.specs.declared.order.Kind.TheVariants.{Limit}
use Rattle.rules.specs.declared.order.Order.{Order}
use Rattle.rules.specs.declared.incoming.Incoming.{Incoming}
use Rattle.rules.specs.Sides.{other}
use Rattle.rules.specs.Orders.{limits}
use Rattle.rules.specs.Trades.{ranked}
use Rattle.table.specs.Choices.{among}
use Rattle.table.specs.declared.table.Prices.{Prices}
use Rattle.table.specs.declared.table.Prices.TheVariants.{Any, AsGoodAs}
use Rattle.matching.specs.declared.span.Span.{Span}

-- Whether a price is one of the span's.
abbrev pub spans : Span → ℕ → Bool
spans s x = among s.prices s.side x

-- The span's prices, best first, and the levels at them.
abbrev pub ranked_in : Span → List Order → List ℕ
ranked_in s os = filter (spans s) (ranked s.side os)

abbrev pub levels_in : Span → List Order → List Kind
levels_in s os = map Limit (ranked_in s os)

-- The lots of the side's limit orders there.
abbrev pub lots_in : Span → List Order → ℕ
lots_in s os = limits s.side (spans s) os

-- The prices of the other side that an entry accepts.
abbrev pub prices_for : Option ℕ → Prices
prices_for None = Any
prices_for (Some q) = AsGoodAs q

abbrev pub facing : Incoming → Span
facing e = record { side = other e.side; prices = prices_for e.limit }
