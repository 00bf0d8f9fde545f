-- What every open order is: from 1 lot to the largest volume, and a limit within the range of prices.
use Rattle.std.specs.Prelude.{ℕ, Bool, true, ◌&&◌, List, [], ◌∷◌, nat_le}
use Rattle.rules.specs.declared.order.Kind.{Kind}
use Rattle.rules.specs.declared.order.Kind.TheVariants.{Limit, OnOpen}
use Rattle.rules.specs.declared.order.Order.{Order}
use Rattle.rules.specs.Limits.{lowest_price, highest_price, most_lots}

abbrev pub price_fits : ℕ → Bool
price_fits x = nat_le lowest_price x && nat_le x highest_price

abbrev pub kind_fits : Kind → Bool
kind_fits (Limit x) = price_fits x
kind_fits OnOpen = true

abbrev pub entry_fits : Kind → ℕ → Bool
entry_fits kind lots = nat_le 1 lots && (nat_le lots most_lots && kind_fits kind)

abbrev pub fits : Order → Bool
fits o = entry_fits o.kind o.lots

abbrev pub all_fit : List Order → Bool
all_fit [] = true
all_fit (o ∷ os) = fits o && all_fit os
