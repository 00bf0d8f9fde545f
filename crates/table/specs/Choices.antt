-- Which orders are counted.
use Rattle.std.specs.Prelude.{ℕ, Bool, true, ◌&&◌}
use Rattle.rules.specs.declared.order.Side.{Side}
use Rattle.rules.specs.declared.order.Order.{Order}
use Rattle.rules.specs.Sides.{is, better_than, as_good_as}
use Rattle.rules.specs.Orders.{priced}
use Rattle.table.specs.declared.table.Prices.{Prices}
use Rattle.table.specs.declared.table.Prices.TheVariants.{Any, AsGoodAs, BetterThan}

abbrev pub among : Prices → Side → ℕ → Bool
among Any s x = true
among (AsGoodAs q) s x = as_good_as s q x
among (BetterThan q) s x = better_than s q x

abbrev pub counts : Side → Prices → Order → Bool
counts s prices o = is s o.side && priced (among prices s) o.kind
