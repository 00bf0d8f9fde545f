-- The volume and the price of an opening.
use Rattle.std.specs.Prelude.{ℕ, zero, suc, min, max, cond, ◌&&◌, List, [], ◌∷◌, Some, None, filter, Option, ◌==◌, nat_le, nat_lt}
use Rattle.rules.specs.declared.order.Side.{Side}
use Rattle.rules.specs.declared.order.Side.TheVariants.{Bid, Offer}
use Rattle.rules.specs.declared.order.Order.{Order}
use Rattle.rules.specs.Limits.{lowest_price, highest_price}
use Rattle.rules.specs.Sides.{midpoint}
use Rattle.rules.specs.Orders.{ahead, within, all_of, demand, supply, prices}

-- The largest of f 1 to f n.
unfoldable pub most : (ℕ → ℕ) → ℕ → ℕ
most f zero = 0
most f (suc n) = max (most f n) (f (suc n))

-- The lots that limit orders could trade with each other at q.
abbrev pub tradable : List Order → ℕ → ℕ
tradable os q = min (demand os q) (supply os q)

-- V: the largest, over all prices q, of the lesser of D(q) and S(q).
unfoldable pub volume : List Order → ℕ
volume os = most (tradable os) highest_price

-- The largest of a function over some prices only.
abbrev pub most_of : (ℕ → ℕ) → List ℕ → ℕ
most_of f [] = 0
most_of f (x ∷ xs) = max (f x) (most_of f xs)

-- Of a side the first v lots trade, the better price first: a price trades where fewer than v lots are ahead of it,
-- and is left, in whole or in part, where more than v lots are at it or ahead.
abbrev pub traded : Side → ℕ → List Order → List ℕ
traded s v os = filter (λ x. nat_lt (ahead s os x) v) (prices s os)

abbrev pub untraded : Side → ℕ → List Order → List ℕ
untraded s v os = filter (λ x. nat_lt v (within s os x)) (prices s os)

-- The highest and the lowest of some prices; of none, the end of the range.
abbrev pub highest : List ℕ → ℕ
highest [] = lowest_price
highest (x ∷ xs) = max x (highest xs)

abbrev pub lowest : List ℕ → ℕ
lowest [] = highest_price
lowest (x ∷ xs) = min x (lowest xs)

-- The opening price where v lots of limit orders trade: the first line that fits.
abbrev pub price_at : ℕ → List Order → Option ℕ
price_at v os =
    cond (v == 0) (cond (nat_lt 0 (all_of Bid os) && nat_lt 0 (all_of Offer os)) (Some (midpoint (highest (prices Bid os)) (lowest (prices Offer os)))) None)
    (cond (nat_le (all_of Bid os) v && nat_le (all_of Offer os) v) (Some (midpoint (highest (traded Offer v os)) (lowest (traded Bid v os))))
    (cond (nat_le (all_of Bid os) v) (Some (highest (traded Offer v os)))
    (cond (nat_le (all_of Offer os) v) (Some (lowest (traded Bid v os)))
    (Some (midpoint (min (lowest (traded Bid v os)) (lowest (untraded Offer v os))) (max (highest (traded Offer v os)) (highest (untraded Bid v os))))))))

abbrev pub price : List Order → Option ℕ
price os = price_at (volume os) os
