-- The open orders of a book, in entry order, and the lots they hold.
use Rattle.std.specs.Prelude.{ℕ, ◌+◌, ◌≤◌, Bool, true, false, cond, ◌&&◌, List, [], ◌∷◌, map, length, Some, None, filter, Option, ◌==◌}
use Rattle.std.specs.List.{AllByRecursion}
use Rattle.rules.specs.declared.order.Side.{Side}
use Rattle.rules.specs.declared.order.Side.TheVariants.{Bid, Offer}
use Rattle.rules.specs.declared.order.Kind.{Kind}
use Rattle.rules.specs.declared.order.Kind.TheVariants.{Limit, OnOpen}
use Rattle.rules.specs.declared.order.Order.{Order}
use Rattle.rules.specs.Limits.{lowest_price, highest_price, most_lots, most_orders}
use Rattle.rules.specs.Sides.{is, better_than, as_good_as}

-- The lots of the orders that pass.
abbrev pub held : (Order → Bool) → List Order → ℕ
held t [] = 0
held t (o ∷ os) = cond (t o) o.lots 0 + held t os

-- A limit whose price passes.
abbrev pub priced : (ℕ → Bool) → Kind → Bool
priced t (Limit x) = t x
priced t OnOpen = false

-- The lots of a side's limit orders whose price passes.
abbrev pub limits : Side → (ℕ → Bool) → List Order → ℕ
limits s t os = held (λ o. is s o.side && priced t o.kind) os

-- The lots of a side's limit orders: better than q; at q or better; all.
abbrev pub ahead : Side → List Order → ℕ → ℕ
ahead s os q = limits s (better_than s q) os

abbrev pub within : Side → List Order → ℕ → ℕ
within s os q = limits s (as_good_as s q) os

abbrev pub all_of : Side → List Order → ℕ
all_of s os = limits s (λ x. true) os

-- D(q): the limit bids at q or higher. S(q): the limit offers at q or lower.
abbrev pub demand : List Order → ℕ → ℕ
demand = within Bid

abbrev pub supply : List Order → ℕ → ℕ
supply = within Offer

-- The prices of a side's limit orders, in entry order.
abbrev pub price_of : Kind → List ℕ → List ℕ
price_of (Limit x) xs = x ∷ xs
price_of OnOpen xs = xs

abbrev pub prices : Side → List Order → List ℕ
prices s [] = []
prices s (o ∷ os) = cond (is s o.side) (price_of o.kind (prices s os)) (prices s os)

-- ---- levels

abbrev pub same : Kind → Kind → Bool
same (Limit x) (Limit y) = x == y
same (Limit x) OnOpen = false
same OnOpen (Limit y) = false
same OnOpen OnOpen = true

abbrev pub on_open : Order → Bool
on_open o = same OnOpen o.kind

-- An order of the level: a side's orders at one price, or its On-Open orders.
abbrev pub at : Side → Kind → Order → Bool
at s k o = is s o.side && same k o.kind

-- The level's orders, earliest entry first, and the queue of their lots, with which a policy is asked.
abbrev pub level : Side → Kind → List Order → List Order
level s k os = filter (at s k) os

abbrev pub queue : Side → Kind → List Order → List ℕ
queue s k os = map (λ o. o.lots) (level s k os)

-- The price of a limit order of the side.
abbrev pub limit_of : Side → Order → Option ℕ
limit_of s o = cond (is s o.side) (elim o.kind [ Limit x ↦ Some x | OnOpen ↦ None ]) None

-- ---- what open orders always are

abbrev pub InRange : Kind → Type 0
InRange (Limit x) = (lowest_price ≤ x) × (x ≤ highest_price)
InRange OnOpen = Unit {0}

-- From 1 lot to the largest volume, and a limit within the range of prices.
abbrev pub Sound : List Order → Type 0
Sound os = AllByRecursion (λ o. (1 ≤ o.lots) × (o.lots ≤ most_lots) × InRange o.kind) os

pub record Book (os : List Order) : Type 0 where
  pub sound : Sound os
  pub few : length os ≤ most_orders
